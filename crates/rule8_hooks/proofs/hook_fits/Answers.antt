use borrow.Author.Rules.{rules}
use Rattle.rule8_hooks.proofs.FitSteps.{hook_result, hook_params}
use Rattle.rule8_hooks.proofs.hook_fits.Goals as goal

pub returns-then-params_fit : goal.returns-then-params_fit
returns-then-params_fit c = search (rules, hook_result)

pub returns-else-params_fit : goal.returns-else-params_fit
returns-else-params_fit c = search (rules, hook_params)
