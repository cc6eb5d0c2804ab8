use native.Mathlib.Omega.{arith}
use Rattle.rule7_parts.proofs.HandlerSteps.{handler_within}
use Rattle.rule7_parts.proofs.check_handler.Goals as goal

pub overflow_add-at : goal.overflow_add-at
overflow_add-at c = omega (arith, handler_within)
