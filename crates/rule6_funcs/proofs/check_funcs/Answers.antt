use borrow.Author.Rules.{rules}
use Rattle.rule6_funcs.proofs.FuncSteps.{recording}
use Rattle.std.proofs.lemmas.Result.{err_from_is_err_and}
use Rattle.rule6_funcs.proofs.check_funcs.Goals as goal

pub returns-in_err-in_function-clause-value : goal.returns-in_err-in_function-clause-value
returns-in_err-in_function-clause-value c =
    let p = err_from_is_err_and c.from_residual.result c.from_residual.ensures.1 in
    rw (p.1, p.2) (search (rules, recording, c.in_err-in_function.was))

pub loop-f-preserved : goal.loop-f-preserved
loop-f-preserved c = search (rules, recording, c.in_ok-in_function.was)

pub returns-clause-value : goal.returns-clause-value
returns-clause-value c = search (rules, recording)
