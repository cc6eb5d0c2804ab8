use borrow.Author.Rules.{rules}
use native.Mathlib.Omega.{arith}
use Rattle.rule8_hooks.proofs.HookSteps.{hook_within, hook_listed, hook_function, hook_import}
use Rattle.rule8_hooks.proofs.check_hook.Goals as goal

pub overflow_add-at : goal.overflow_add-at
overflow_add-at c = omega (arith, hook_within)

pub overflow_add-at-2 : goal.overflow_add-at-2
overflow_add-at-2 c = omega (arith, hook_within)

pub check_bound_function-requires-clause-h_bound : goal.check_bound_function-requires-clause-h_bound
check_bound_function-requires-clause-h_bound c = search (rules, hook_listed)

pub check_bound_import-requires-clause-h_bound : goal.check_bound_import-requires-clause-h_bound
check_bound_import-requires-clause-h_bound c = search (rules, hook_listed)

pub returns-in-0 : goal.returns-in-0
returns-in-0 c = search (rules, hook_function)

pub returns-in_default : goal.returns-in_default
returns-in_default c = search (rules, hook_import)
