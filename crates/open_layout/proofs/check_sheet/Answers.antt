use borrow.Author.Rules.{rules}
use Rattle.open_layout.proofs.LayoutSteps.{frames}
use Rattle.open_layout.proofs.check_sheet.Goals as goal

pub returns : goal.returns
returns c = search (rules, frames, c.in_ok-n.was)
