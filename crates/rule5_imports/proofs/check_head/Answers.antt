use borrow.Author.Rules.{rules}
use Rattle.rule5_imports.proofs.RuleSteps.{head_names, head_stop}
use Rattle.std.proofs.lemmas.Result.{err_from_is_err_and}
use Rattle.rule5_imports.proofs.check_head.Goals as goal

pub returns-in_err-check_signature : goal.returns-in_err-check_signature
returns-in_err-check_signature c =
    let p = err_from_is_err_and c.from_residual.result c.from_residual.ensures.1 in
    rw (p.1, p.2) (search (rules, head_stop, c.in_err-check_signature.was))

pub returns : goal.returns
returns c = search (rules, head_names, c.in_ok-check_signature.was)
