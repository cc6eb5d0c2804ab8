use borrow.Author.Rules.{rules}
use Rattle.std.proofs.lemmas.Result.{err_from_is_err_and}
use Rattle.open_sheet.specs.ReadyLaws.{captures_room}
use Rattle.rule7_callees.proofs.CalleeSteps.{direct_window, direct_arity, direct_captures}
use Rattle.rule7_callees.proofs.check_direct.Goals as goal

pub returns-in_err-check_window : goal.returns-in_err-check_window
returns-in_err-check_window c =
    let p = err_from_is_err_and c.from_residual.result c.from_residual.ensures.1 in
    rw (p.1, p.2) (search (rules, direct_window, c.in_err-check_window.was))

pub callee_params-params-requires : goal.callee_params-params-requires
callee_params-params-requires c = record { ready = c.requires.checkable.ready; g_lt_funcs = c.requires.g_lt_funcs }

pub returns-in_err-check_arity : goal.returns-in_err-check_arity
returns-in_err-check_arity c =
    let r = c.from_residual-in_err-check_arity in
    let p = err_from_is_err_and r.result r.ensures.1 in
    rw (p.1, p.2) (search (rules, direct_arity, c.in_ok-check_window.was, c.in_err-check_arity.was))

pub capture_count-requires : goal.capture_count-requires
capture_count-requires c = captures_room _ _ _ c.requires.checkable.ready _ c.requires.g_lt_funcs

pub returns : goal.returns
returns c = search (rules, direct_captures, c.in_ok-check_window.was, c.in_ok-check_arity.was)
