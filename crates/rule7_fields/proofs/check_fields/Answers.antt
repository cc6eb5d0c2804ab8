use borrow.Author.Rules.{rules}
use Rattle.std.proofs.lemmas.Result.{err_from_is_err_and}
use Rattle.rule7_fields.proofs.FieldSteps.{slots_a, slots_b, slots_w, slots_c}
use Rattle.rule7_fields.proofs.check_fields.Goals as goal

pub returns-in_err-check_slot : goal.returns-in_err-check_slot
returns-in_err-check_slot c =
    let p = err_from_is_err_and c.from_residual.result c.from_residual.ensures.1 in
    rw (p.1, p.2) (search (rules, slots_a, c.in_err-check_slot.was))

pub returns-in_err-check_slot-2 : goal.returns-in_err-check_slot-2
returns-in_err-check_slot-2 c =
    let r = c.from_residual-in_err-check_slot-2 in
    let p = err_from_is_err_and r.result r.ensures.1 in
    rw (p.1, p.2) (search (rules, slots_b, c.in_ok-check_slot.was, c.in_err-check_slot-2.was))

pub returns-in_err-check_slot-3 : goal.returns-in_err-check_slot-3
returns-in_err-check_slot-3 c =
    let r = c.from_residual-in_err-check_slot-3 in
    let p = err_from_is_err_and r.result r.ensures.1 in
    rw (p.1, p.2) (search (rules, slots_w, c.in_ok-check_slot.was, c.in_ok-check_slot-2.was, c.in_err-check_slot-3.was))

pub returns : goal.returns
returns c = search (rules, slots_c, c.in_ok-check_slot.was, c.in_ok-check_slot-2.was, c.in_ok-check_slot-3.was)
