use borrow.Author.Rules.{rules}
use native.Mathlib.Omega.{arith}
use Rattle.rule7_parts.proofs.HandlerSteps.{handler_within, handling}
use Rattle.rule7_parts.proofs.good_handler.Goals as goal

pub overflow_add-at : goal.overflow_add-at
overflow_add-at c = omega (arith, handler_within)

pub overflow_add-at-2 : goal.overflow_add-at-2
overflow_add-at-2 c = omega (arith, handler_within)

pub overflow_add-at-3 : goal.overflow_add-at-3
overflow_add-at-3 c = omega (arith, handler_within)

pub returns : goal.returns
returns c = search (rules, handling)
