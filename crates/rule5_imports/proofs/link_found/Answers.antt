use borrow.Author.Rules.{rules}
use Rattle.std.proofs.lemmas.Result.{err_from_is_err_and}
use Rattle.rule5_imports.proofs.LinkSteps.{linked_entry, linked_broken}
use Rattle.rule5_imports.proofs.link_found.Goals as goal

pub returns-in_err-check_tail-clause-value : goal.returns-in_err-check_tail-clause-value
returns-in_err-check_tail-clause-value c =
    let p = err_from_is_err_and c.from_residual.result c.from_residual.ensures.1 in
    rw (p.1, p.2) (search (rules, linked_broken, c.in_err-check_tail.was))

pub returns-clause-value : goal.returns-clause-value
returns-clause-value c = search (rules, linked_entry, c.in_ok-check_tail.was)
