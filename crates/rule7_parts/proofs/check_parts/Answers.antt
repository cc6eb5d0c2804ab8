use borrow.Author.Rules.{rules}
use Rattle.std.proofs.lemmas.Result.{err_from_is_err_and}
use Rattle.rule7_parts.proofs.PartSteps.{parting}
use Rattle.rule7_parts.proofs.check_parts.Goals as goal

pub returns-in_err-check_last : goal.returns-in_err-check_last
returns-in_err-check_last c =
    let p = err_from_is_err_and c.from_residual.result c.from_residual.ensures.1 in
    rw (p.1, p.2) (search (rules, parting, c.in_err-check_last.was))

pub returns-in_err-in_function : goal.returns-in_err-in_function
returns-in_err-in_function c =
    let r = c.from_residual-in_err-in_function in
    let p = err_from_is_err_and r.result r.ensures.1 in
    rw (p.1, p.2) (search (rules, parting, c.in_ok-check_last.was, c.in_err-in_function.was))

pub returns : goal.returns
returns c = search (rules, parting, c.in_ok-check_last.was, c.in_ok-in_function.was)
