use borrow.Author.Rules.{rules}
use native.Mathlib.Omega.{arith}
use Rattle.rule7_parts.proofs.HandlerSteps.{handlers_within, handlers_room, handlers_whole, handlers_judged, handler_judged}
use Rattle.rule7_parts.proofs.check_handlers.Goals as goal

pub overflow_add-c : goal.overflow_add-c
overflow_add-c c = omega (arith, handlers_within)

pub check_each-requires : goal.check_each-requires
unfolding handler_judged
check_each-requires c κs within =
    let room = handlers_room _ _ _ c.requires in
    let whole = handlers_whole _ _ _ c.requires in
    (search rules depth 9, (omega (arith, room), ((λ i h. search (rules, whole)), λ i r h k. search rules)))

pub returns : goal.returns
returns c = search (rules, handlers_judged)
