use borrow.Author.Rules.{rules}
use Rattle.std.proofs.lemmas.Result.{err_from_is_err_and}
use Rattle.rule6_records.proofs.RecordSteps.{shapes_whole, lists_stop, lists_then}
use Rattle.rule6_records.proofs.check_lists.Goals as goal

pub check_shapes-requires-clause-whole : goal.check_shapes-requires-clause-whole
check_shapes-requires-clause-whole c = search (rules, shapes_whole)

pub returns-in_err-check_shapes-clause-value : goal.returns-in_err-check_shapes-clause-value
returns-in_err-check_shapes-clause-value c =
    let p = err_from_is_err_and c.from_residual.result c.from_residual.ensures.1 in
    rw (p.1, p.2) (search (rules, lists_stop, c.in_err-check_shapes.was))

pub returns-clause-value : goal.returns-clause-value
returns-clause-value c = search (rules, lists_then, c.in_ok-check_shapes.was)
