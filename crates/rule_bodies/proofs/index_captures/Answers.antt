use borrow.Author.Rules.{rules}
use native.Mathlib.Omega.{arith}
use Rattle.rule_bodies.proofs.CaptureSteps.{counted_start, counted_room, counted_place, counted_whole, counted_next, counted_end}
use Rattle.rule_bodies.proofs.index_captures.Goals as goal

pub overflow_mul-base : goal.overflow_mul-base
overflow_mul-base c = omega (arith, c.requires.room)

pub loop-f-init : goal.loop-f-init
loop-f-init c = search (rules, counted_start)

pub func_at-at-requires : goal.func_at-at-requires
func_at-at-requires c = search (rules, counted_room)

pub captures_count-requires : goal.captures_count-requires
captures_count-requires c = search (rules, counted_whole)

pub overflow_add-work : goal.overflow_add-work
overflow_add-work c =
    omega (arith, counted_place _ _ _ c.requires _ _ c.loop-f.invariant c.loop-f-test.true, c.loop-f.invariant.frame.len)

pub offset_bounds-work-base : goal.offset_bounds-work-base
offset_bounds-work-base c =
    omega (arith, counted_place _ _ _ c.requires _ _ c.loop-f.invariant c.loop-f-test.true, c.loop-f.invariant.frame.len)

pub bounds-work-base : goal.bounds-work-base
bounds-work-base c = search (rules, counted_place)

pub loop-f-preserved : goal.loop-f-preserved
loop-f-preserved c = search (rules, counted_next)

pub shape_of-work : goal.shape_of-work
shape_of-work c = c.loop-f.invariant.frame.len

pub returns : goal.returns
returns c = record {
  frame = c.loop-f.invariant.frame;
  by_index = counted_end _ _ _ _ _ c.loop-f.invariant (search rules);
}
