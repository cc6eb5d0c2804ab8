use borrow.Author.Rules.{rules}
use Rattle.std.proofs.lemmas.Result.{err_from_is_err_and}
use Rattle.rule7_arguments.specs.ArgumentLaws.{fewest_room}
use Rattle.rule7_callees.proofs.CalleeSteps.{import_window, import_arity}
use Rattle.rule7_callees.proofs.check_import.Goals as goal

pub returns-in_err-check_window : goal.returns-in_err-check_window
returns-in_err-check_window c =
    let p = err_from_is_err_and c.from_residual.result c.from_residual.ensures.1 in
    rw (p.1, p.2) (search (rules, import_window, c.in_err-check_window.was))

pub fewest_arguments-fewest-requires : goal.fewest_arguments-fewest-requires
fewest_arguments-fewest-requires c =
    fewest_room _ _ _ c.requires.checkable.ready _ c.requires.j_lt_imports

pub most_arguments-most-requires : goal.most_arguments-most-requires
most_arguments-most-requires c =
    record { ready = c.requires.checkable.ready; j_lt_imports = c.requires.j_lt_imports }

pub returns : goal.returns
returns c = search (rules, import_arity, c.in_ok-check_window.was)
