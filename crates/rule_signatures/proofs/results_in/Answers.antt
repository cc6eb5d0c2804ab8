use borrow.Author.Rules.{rules}
use native.Mathlib.Omega.{arith}
use Rattle.rule_signatures.proofs.SigSteps.{type_within, results_within, results_counted, no_results}
use Rattle.rule_signatures.proofs.results_in.Goals as goal

pub returns-then-word-ne0 : goal.returns-then-word-ne0
returns-then-word-ne0 c = search (rules, results_counted, no_results)

pub overflow_add-at : goal.overflow_add-at
overflow_add-at c = omega (arith, type_within)

pub overflow_add-at-2 : goal.overflow_add-at-2
overflow_add-at-2 c = omega (arith, results_within _ _ _ c.requires c.word.ensures c.if-word-ne0.false c.word-params.ensures)

pub overflow_add-at-3 : goal.overflow_add-at-3
overflow_add-at-3 c = omega (arith, results_within _ _ _ c.requires c.word.ensures c.if-word-ne0.false c.word-params.ensures)

pub returns : goal.returns
returns c = search (rules, results_counted, no_results)
