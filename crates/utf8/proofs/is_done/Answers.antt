use borrow.Author.Rules.{rules}
use Rattle.utf8.proofs.Stepping.{is_done_lem, is_not_done}
use Rattle.utf8.proofs.is_done.Goals as goal

pub returns-in-Done : goal.returns-in-Done
returns-in-Done c = is_done_lem c.in-Done.is

pub returns-in_default : goal.returns-in_default
returns-in_default c = is_not_done _ c.in_default.not-Done
