use borrow.Author.Rules.{rules}
use native.Mathlib.Omega.{arith}
use Rattle.rule_signatures.proofs.SigSteps.{type_within, params_counted, no_params}
use Rattle.rule_signatures.proofs.params_in.Goals as goal

pub returns-then-word-ne0 : goal.returns-then-word-ne0
returns-then-word-ne0 c = search (rules, params_counted, no_params)

pub overflow_add-at : goal.overflow_add-at
overflow_add-at c = omega (arith, type_within)

pub returns : goal.returns
returns c = search (rules, params_counted, no_params)
