use borrow.Author.Rules.{rules}
use Rattle.rule6_funcs.proofs.FuncSteps.{func_stop, func_then}
use Rattle.std.proofs.lemmas.Result.{err_from_is_err_and}
use Rattle.rule6_funcs.proofs.check_func.Goals as goal

pub returns-in_err-check_head-clause-value : goal.returns-in_err-check_head-clause-value
returns-in_err-check_head-clause-value c =
    let p = err_from_is_err_and c.from_residual.result c.from_residual.ensures.1 in
    rw (p.1, p.2) (search (rules, func_stop, c.in_err-check_head.was))

pub returns-clause-value : goal.returns-clause-value
returns-clause-value c = search (rules, func_then, c.in_ok-check_head.was)
