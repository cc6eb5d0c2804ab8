use borrow.Author.Rules.{rules}
use Rattle.std.proofs.lemmas.Result.{err_from_is_err_and}
use Rattle.open_sheet.specs.ReadyLaws.{ready_kept}
use Rattle.rules.specs.GroupLaws.{linked_refused}
use Rattle.rules.proofs.OrderSteps.{imports_stop, globals_stop, funcs_last, kept_equal, linked_equal, record_order}
use Rattle.rules.proofs.check_records.Goals as goal

pub returns-in_err-check_imports-clause-value : goal.returns-in_err-check_imports-clause-value
returns-in_err-check_imports-clause-value c =
    let s = imports_stop _ _ _ (c.in_err-check_imports.was {u = tt}) c.check_imports.ensures.value in
    search (rules, s)

pub returns-in_err-check_imports-clause-linked_if : goal.returns-in_err-check_imports-clause-linked_if
returns-in_err-check_imports-clause-linked_if c =
    let p = err_from_is_err_and c.from_residual.result c.from_residual.ensures.1 in
    rw (p.1, p.2) (linked_refused _ _ _ _ _)

pub returns-in_err-check_globals-clause-value : goal.returns-in_err-check_globals-clause-value
returns-in_err-check_globals-clause-value c =
    let s = globals_stop _ _ _ (c.in_ok-check_imports.was {u = tt}) c.check_imports.ensures.value (c.in_err-check_globals.was {u = tt}) c.check_globals.ensures in
    search (rules, s)

pub returns-in_err-check_globals-clause-linked_if : goal.returns-in_err-check_globals-clause-linked_if
returns-in_err-check_globals-clause-linked_if c =
    let p = err_from_is_err_and c.from_residual-in_err-check_globals.result c.from_residual-in_err-check_globals.ensures.1 in
    rw (p.1, p.2) (linked_refused _ _ _ _ _)

pub returns-clause-value : goal.returns-clause-value
returns-clause-value c =
    funcs_last _ _ (c.in_ok-check_imports.was {u = tt}) c.check_imports.ensures.value (c.in_ok-check_globals.was {u = tt}) c.check_globals.ensures c.check_funcs.ensures.value

pub returns-clause-kept : goal.returns-clause-kept
returns-clause-kept c = kept_equal _ _ _ _ c.check_imports.ensures.kept c.check_funcs.ensures.work_unchanged

pub returns-clause-linked_if : goal.returns-clause-linked_if
returns-clause-linked_if c =
    linked_equal _ _ _ _ _ (c.in_ok-check_imports.was {u = tt}) c.check_imports.ensures.linked_if c.check_funcs.ensures.work_unchanged

pub check_funcs-requires-clause-ready : goal.check_funcs-requires-clause-ready
check_funcs-requires-clause-ready c = search (rules, ready_kept)
