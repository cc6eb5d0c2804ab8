use borrow.Author.Rules.{rules}
use Rattle.std.proofs.lemmas.Result.{err_from_is_err_and}
use Rattle.rule6_records.proofs.RecordSteps.{standing, tailing}
use Rattle.rule6_records.proofs.check_tail.Goals as goal

pub check_values-requires-clause-whole : goal.check_values-requires-clause-whole
check_values-requires-clause-whole c = search (rules, standing)

pub returns-in_err-check_values : goal.returns-in_err-check_values
returns-in_err-check_values c =
    let p = err_from_is_err_and c.from_residual.result c.from_residual.ensures.1 in
    rw (p.1, p.2) (search (rules, tailing, c.in_err-check_values.was))

pub check_strings-requires-clause-whole : goal.check_strings-requires-clause-whole
check_strings-requires-clause-whole c = search (rules, standing)

pub returns-in_err-check_strings : goal.returns-in_err-check_strings
returns-in_err-check_strings c =
    let r = c.from_residual-in_err-check_strings in
    let p = err_from_is_err_and r.result r.ensures.1 in
    rw (p.1, p.2) (search (rules, tailing, c.in_ok-check_values.was, c.in_err-check_strings.was))

pub check_type_refs-requires-clause-whole : goal.check_type_refs-requires-clause-whole
check_type_refs-requires-clause-whole c = search (rules, standing)

pub returns : goal.returns
returns c = search (rules, tailing, c.in_ok-check_values.was, c.in_ok-check_strings.was)
