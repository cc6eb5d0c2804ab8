use borrow.Author.Rules.{rules}
use Rattle.rule8_hooks.proofs.BoundSteps.{range_below, function_stop, function_holds, function_broken}
use Rattle.rule8_hooks.proofs.check_bound_function.Goals as goal

pub returns-in_err-func_in : goal.returns-in_err-func_in
returns-in_err-func_in c =
    let s = function_stop _ _ _ c.requires.ready c.args.h _ c.func_in.ensures (c.in_err-func_in.was {u = tt}) in
    search (rules, s)

pub function_fits-requires-clause-f_lt_funcs : goal.function_fits-requires-clause-f_lt_funcs
function_fits-requires-clause-f_lt_funcs c = search (rules, range_below, c.in_ok-func_in.was)

pub returns-then-not-function_fits : goal.returns-then-not-function_fits
returns-then-not-function_fits c = search (rules, function_broken, c.in_ok-func_in.was)

pub returns : goal.returns
returns c = search (rules, function_holds, c.in_ok-func_in.was)
