use borrow.Author.Rules.{rules}
use Rattle.blocks.proofs.Framing.{checking}
use Rattle.blocks.proofs.all_checked.Goals as goal

pub loop-k-init : goal.loop-k-init
loop-k-init c = search (rules, checking)

pub returns-then-not-is_checked : goal.returns-then-not-is_checked
returns-then-not-is_checked c = search (rules, checking)

pub loop-k-preserved : goal.loop-k-preserved
loop-k-preserved c = search (rules, checking)

pub returns : goal.returns
returns c = search (rules, checking)
