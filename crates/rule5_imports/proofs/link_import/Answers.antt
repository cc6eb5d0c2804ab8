use borrow.Author.Rules.{rules}
use Rattle.std.proofs.lemmas.Result.{err_from_is_err_and}
use Rattle.rule5_imports.proofs.RuleSteps.{head_holds}
use Rattle.rule5_imports.proofs.LinkSteps.{import_linked, import_stop}
use Rattle.rule5_imports.proofs.link_import.Goals as goal

pub returns-in_err-check_head-clause-value : goal.returns-in_err-check_head-clause-value
returns-in_err-check_head-clause-value c =
    let p = err_from_is_err_and c.from_residual.result c.from_residual.ensures.1 in
    rw (p.1, p.2) (search (rules, import_stop, c.in_err-check_head.was))

pub link_named-requires-clause-head_holds : goal.link_named-requires-clause-head_holds
link_named-requires-clause-head_holds c = search (rules, head_holds, c.in_ok-check_head.was)

pub returns-clause-value : goal.returns-clause-value
returns-clause-value c = search (rules, import_linked, c.in_ok-check_head.was)
