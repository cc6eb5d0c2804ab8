use borrow.Author.Rules.{rules}
use native.Mathlib.Omega.{arith}
use Rattle.reader.specs.ValueLaws.{list_within}
use Rattle.rule_signatures.proofs.DynSteps.{one_dyn_lem, not_one}
use Rattle.rule_signatures.proofs.is_one_dyn.Goals as goal

pub overflow_add-at : goal.overflow_add-at
overflow_add-at c = omega (arith, list_within)

pub returns-then-word-eq1 : goal.returns-then-word-eq1
returns-then-word-eq1 c = search (rules, one_dyn_lem, not_one)

pub returns-else-word-eq1 : goal.returns-else-word-eq1
returns-else-word-eq1 c = search (rules, one_dyn_lem, not_one)
