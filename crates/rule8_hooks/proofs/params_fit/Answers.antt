use borrow.Author.Rules.{rules}
use Rattle.rule8_hooks.proofs.FitSteps.{params_none, params_found, params_all, params_other}
use Rattle.rule8_hooks.proofs.params_fit.Goals as goal

pub returns-then-count-params : goal.returns-then-count-params
returns-then-count-params c = search (rules, params_other)

pub params_at-requires-clause-has_sig : goal.params_at-requires-clause-has_sig
params_at-requires-clause-has_sig c = search (rules, params_found)

pub returns-then-count-eq0 : goal.returns-then-count-eq0
returns-then-count-eq0 c = search (rules, params_none)

pub returns-else-count-eq0 : goal.returns-else-count-eq0
returns-else-count-eq0 c = search (rules, params_found, params_all)
