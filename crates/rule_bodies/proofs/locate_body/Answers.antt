use borrow.Author.Rules.{rules}
use native.Mathlib.Omega.{arith}
use Rattle.rule_bodies.proofs.BodySteps.{function_within, placed_body}
use Rattle.rule_bodies.proofs.locate_body.Goals as goal

pub overflow_add-result : goal.overflow_add-result
overflow_add-result c = omega (arith, function_within)

pub returns : goal.returns
returns c = search (rules, placed_body)
