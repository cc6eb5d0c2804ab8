use native.Mathlib.Omega.{arith}
use Rattle.rule3_parents.proofs.ChainSteps.{met_over}
use Rattle.rule3_parents.proofs.numbers_met.Goals as goal

pub returns-then-most-eq256 : goal.returns-then-most-eq256
returns-then-most-eq256 c = met_over _ _ _ (omega arith) c.chain_length.ensures

pub returns-then-most-eq64 : goal.returns-then-most-eq64
returns-then-most-eq64 c = met_over _ _ _ (omega arith) c.chain_length-then-most-eq64.ensures
