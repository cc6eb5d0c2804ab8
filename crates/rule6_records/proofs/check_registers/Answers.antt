use borrow.Author.Rules.{rules}
use Rattle.std.proofs.lemmas.Result.{err_from_is_err_and}
use Rattle.rule6_records.proofs.RecordSteps.{standing, registering}
use Rattle.rule6_records.proofs.check_registers.Goals as goal

pub check_values-requires-clause-whole : goal.check_values-requires-clause-whole
check_values-requires-clause-whole c = search (rules, standing)

pub returns-in_err-check_values : goal.returns-in_err-check_values
returns-in_err-check_values c =
    let p = err_from_is_err_and c.from_residual.result c.from_residual.ensures.1 in
    rw (p.1, p.2) (search (rules, registering, c.in_err-check_values.was))

pub returns-then-c-gt65536 : goal.returns-then-c-gt65536
returns-then-c-gt65536 c = search (rules, registering, c.in_ok-check_values.was)

pub returns : goal.returns
returns c = search (rules, registering, c.in_ok-check_values.was)
