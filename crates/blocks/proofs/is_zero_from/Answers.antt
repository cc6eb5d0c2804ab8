use borrow.Author.Rules.{rules}
use Rattle.blocks.proofs.Framing.{zeroing}
use Rattle.blocks.proofs.is_zero_from.Goals as goal

pub returns-then-word-ne0 : goal.returns-then-word-ne0
returns-then-word-ne0 c = search (rules, zeroing)

pub loop-i-preserved : goal.loop-i-preserved
loop-i-preserved c = search (rules, zeroing)

pub returns : goal.returns
returns c = search (rules, zeroing)
