use borrow.Author.Rules.{rules}
use native.Mathlib.Omega.{arith}
use Rattle.table_spans.proofs.WalkSteps.{head_room, walk_start, walk_end, left_some, left_few, clock_few, entered}
use Rattle.table_spans.proofs.WalkSteps.{sibling_room, rising, span_room, after_few, walk_next}
use Rattle.table_spans.proofs.+visit.Goals as goal

pub overflow_mul-o : goal.overflow_mul-o
overflow_mul-o t c = search (rules, head_room)

pub overflow_add-o : goal.overflow_add-o
overflow_add-o t c = search (rules, head_room)

pub offset_bounds-work-o : goal.offset_bounds-work-o
offset_bounds-work-o t c = search (rules, head_room)

pub bounds-work-o : goal.bounds-work-o
bounds-work-o t c = search (rules, head_room)

pub loop-t-init : goal.loop-t-init
loop-t-init t c = search (rules, walk_start)

pub overflow_add-t : goal.overflow_add-t
overflow_add-t t c = search (rules, clock_few)

pub overflow_add-now : goal.overflow_add-now
overflow_add-now t c =
    omega (arith, clock_few c.loop-t.invariant c.loop-t-test.true, c.struct_known-in-loop-t-1.given)

pub overflow_sub-left : goal.overflow_sub-left
overflow_sub-left t c = search (rules, left_some)

pub visit-after-requires : goal.visit-after-requires
visit-after-requires t c =
    let y = c.loop-t.invariant in
    let h = c.loop-t-test.true in
    (omega (arith, left_some y h), (y.linked, (entered y h, (omega (arith, h), omega arith))))

pub overflow_add-at : goal.overflow_add-at
overflow_add-at t c = omega (arith, c.loop-t.invariant.room, c.loop-t-test.true)

pub overflow_mul-t : goal.overflow_mul-t
overflow_mul-t t c = omega (arith, c.loop-t.invariant.room, c.loop-t-test.true)

pub overflow_add-at-in-loop-t : goal.overflow_add-at-in-loop-t
overflow_add-at-in-loop-t t c = omega (arith, c.loop-t.invariant.room, c.loop-t-test.true)

pub overflow_sub-most : goal.overflow_sub-most
overflow_sub-most t c = omega (arith, left_few c.loop-t.invariant c.loop-t-test.true)

pub store_span-requires : goal.store_span-requires
store_span-requires t c =
    let y = c.loop-t.invariant in
    let h = c.loop-t-test.true in
    let few = c.struct_known-in-loop-t-1.given in
    let room = span_room y h _ _ c.visit-after.ensures.list_numbered c.visit-after.ensures.value in
    let after = after_few y h _ _ c.visit-after.ensures.list_numbered c.visit-after.ensures.value in
    record { at_in_bounds = room; pre_bound = (omega (arith, clock_few y h, few), (omega (arith, after, few), omega (arith, left_some y h))) }

pub overflow_mul-o-in-loop-t : goal.overflow_mul-o-in-loop-t
overflow_mul-o-in-loop-t t c = omega (arith, sibling_room c.loop-t.invariant c.loop-t-test.true)

pub overflow_add-o-in-loop-t : goal.overflow_add-o-in-loop-t
overflow_add-o-in-loop-t t c = omega (arith, sibling_room c.loop-t.invariant c.loop-t-test.true)

pub offset_bounds-work-o-in-loop-t : goal.offset_bounds-work-o-in-loop-t
offset_bounds-work-o-in-loop-t t c = omega (arith, sibling_room c.loop-t.invariant c.loop-t-test.true)

pub bounds-work-o-in-loop-t : goal.bounds-work-o-in-loop-t
bounds-work-o-in-loop-t t c = search (rules, sibling_room)

pub loop-t-smaller : goal.loop-t-smaller
loop-t-smaller t c = search (rules, rising)

pub loop-t-preserved : goal.loop-t-preserved
loop-t-preserved t c =
    let y = c.loop-t.invariant in
    let h = c.loop-t-test.true in
    walk_next y h _ _ c.visit-after.ensures.list_numbered c.visit-after.ensures.value _ _ (omega (arith, left_few y h)) c.store_span.ensures _ c.widen-t-in-loop-t.ensures

pub returns : goal.returns
returns t c = let w = walk_end c.loop-t.invariant c.loop-t-test.false in record { list_numbered = w.0; value = w.1 }
