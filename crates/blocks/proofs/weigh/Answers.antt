use borrow.Author.Rules.{rules}
use native.Mathlib.Omega.{arith}
use Rattle.blocks.proofs.Reading.{weighs_start, weighs_next, weighs_end, weighs_term}
use Rattle.blocks.proofs.weigh.Goals as goal

pub loop-i-init : goal.loop-i-init
loop-i-init c = search (rules, weighs_start, weighs_next, weighs_end)

pub loop-i-preserved : goal.loop-i-preserved
loop-i-preserved c = weighs_next _ _ _ _ _ c.loop-i.invariant c.loop-i-test.true (omega (arith, c.type_inv.bytes c.loop-i.i))

pub returns : goal.returns
returns c = search (rules, weighs_start, weighs_next, weighs_end)
