use native.Mathlib.Omega.{arith}
use Rattle.rule_bodies.proofs.BodySteps.{function_within}
use Rattle.rule_bodies.proofs.locate_front.Goals as goal

pub overflow_add-at : goal.overflow_add-at
overflow_add-at c = omega (arith, function_within)
