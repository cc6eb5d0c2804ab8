use borrow.Author.Rules.{rules}
use Rattle.rules.proofs.OrderSteps.{hooks_stop, start_stop, exports_last, end_order}
use Rattle.rules.proofs.check_ends.Goals as goal

pub returns-in_err-check_hooks-clause-value : goal.returns-in_err-check_hooks-clause-value
returns-in_err-check_hooks-clause-value c =
    let s = hooks_stop _ _ (c.in_err-check_hooks.was {u = tt}) c.check_hooks.ensures in
    search (rules, s)

pub returns-in_err-check_start-clause-value : goal.returns-in_err-check_start-clause-value
returns-in_err-check_start-clause-value c =
    let s = start_stop _ _ (c.in_ok-check_hooks.was {u = tt}) c.check_hooks.ensures (c.in_err-check_start.was {u = tt}) c.check_start.ensures in
    search (rules, s)

pub returns-clause-value : goal.returns-clause-value
returns-clause-value c =
    exports_last _ (c.in_ok-check_hooks.was {u = tt}) c.check_hooks.ensures (c.in_ok-check_start.was {u = tt}) c.check_start.ensures c.check_exports.ensures.value

pub returns-in_err-check_hooks-clause-above : goal.returns-in_err-check_hooks-clause-above
returns-in_err-check_hooks-clause-above c = search (rules, end_order)

pub returns-in_err-check_start-clause-above : goal.returns-in_err-check_start-clause-above
returns-in_err-check_start-clause-above c = search (rules, end_order)
