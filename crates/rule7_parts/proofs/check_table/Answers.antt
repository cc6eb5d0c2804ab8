use borrow.Author.Rules.{rules}
use native.Mathlib.Omega.{arith}
use Rattle.std.proofs.lemmas.Result.{err_from_is_err_and}
use Rattle.rule7_parts.proofs.TableSteps.{target_faults, switch_fit, switch_within, targets_stop, targets_last}
use Rattle.rule7_parts.proofs.check_table.Goals as goal

pub overflow_add-at : goal.overflow_add-at
overflow_add-at c = omega (arith, switch_within)

pub check_each-requires : goal.check_each-requires
unfolding target_faults
check_each-requires c κs within =
    let room = switch_fit _ _ _ c.requires.whole c.word-count.ensures in
    (search rules depth 9, (omega (arith, room), (search rules, search rules)))

pub returns-in_err-check_each : goal.returns-in_err-check_each
returns-in_err-check_each c =
    let p = err_from_is_err_and c.from_residual.result c.from_residual.ensures.1 in
    rw (p.1, p.2) (targets_stop _ _ _ _ c.requires.whole c.word-count.ensures c.check_each.ensures (c.in_err-check_each.was {u = tt}))

pub returns : goal.returns
unfolding target_faults
returns c = targets_last _ _ _ _ c.requires.whole c.word-count.ensures c.check_each.ensures (c.in_ok-check_each.was {u = tt}) c.check_target.ensures

pub overflow_add-at-2 : goal.overflow_add-at-2
overflow_add-at-2 c = omega (arith, switch_within)

pub overflow_add-at-3 : goal.overflow_add-at-3
overflow_add-at-3 c = omega (arith, switch_fit _ _ _ c.requires.whole c.word-count.ensures)
