use borrow.Author.Rules.{rules}
use Rattle.rule8_hooks.proofs.FitSteps.{result_found, result_one, result_other, result_none}
use Rattle.rule8_hooks.proofs.result_fits.Goals as goal

pub returns-then-not-res : goal.returns-then-not-res
returns-then-not-res c = search (rules, result_none)

pub results_at-requires-clause-has_sig : goal.results_at-requires-clause-has_sig
results_at-requires-clause-has_sig c = search (rules, result_found)

pub returns-then-count-eq1 : goal.returns-then-count-eq1
returns-then-count-eq1 c = search (rules, result_one)

pub returns-else-count-eq1 : goal.returns-else-count-eq1
returns-else-count-eq1 c = search (rules, result_other)
