use native.Mathlib.Omega.{arith}
use Rattle.rule7_words.proofs.InstSteps.{b_of}
use Rattle.rule7_words.proofs.slot_b.Goals as goal

pub returns : goal.returns
returns c = record { value = b_of _; upper_bound = omega (arith, c.struct_known-1.given) }
