use borrow.Author.Rules.{rules}
use Rattle.sheet.specs.Editions.{may_leave_out}
use Rattle.sheet.proofs.may_leave_out.Goals as goal

pub returns : goal.returns
unfolding may_leave_out
returns c = search rules
