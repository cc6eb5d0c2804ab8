use native.Mathlib.Omega.{arith}
use Rattle.rule7_words.proofs.InstSteps.{a_of}
use Rattle.rule7_words.proofs.slot_a.Goals as goal

pub returns : goal.returns
returns c = record { value = a_of _; upper_bound = omega (arith, c.struct_known-1.given) }
