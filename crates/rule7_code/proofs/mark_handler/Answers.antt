use borrow.Author.Rules.{rules}
use Rattle.rule7_code.proofs.MarkSteps.{mark_written}
use Rattle.rule7_code.proofs.mark_handler.Goals as goal

pub returns : goal.returns
returns c = search (rules, mark_written)
