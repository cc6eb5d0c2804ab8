use borrow.Author.Rules.{rules}
use native.Mathlib.Omega.{arith}
use Rattle.rule_frames.proofs.ShapeSteps.{shapes_room, measured_start, measured_end, measured_place, measured_within, measured_next}
use Rattle.rule_frames.proofs.index_shapes.Goals as goal

pub overflow_add-p : goal.overflow_add-p
overflow_add-p c = omega (arith, shapes_room _ _ _ c.requires.ready _ c.requires.framed)

pub loop-k-init : goal.loop-k-init
loop-k-init c = measured_start _ _ _ c.requires.ready _ c.requires.framed

pub overflow_mul-work : goal.overflow_mul-work
overflow_mul-work c = omega (arith, c.requires.ready.room)

pub overflow_add-work : goal.overflow_add-work
overflow_add-work c =
    omega (
      arith,
      measured_place _ _ _ c.requires.ready _ c.requires.framed _ _ _ c.loop-k.invariant c.loop-k-test.true,
      c.loop-k.invariant.frame.len,
    )

pub offset_bounds-work-o : goal.offset_bounds-work-o
offset_bounds-work-o c =
    omega (
      arith,
      measured_place _ _ _ c.requires.ready _ c.requires.framed _ _ _ c.loop-k.invariant c.loop-k-test.true,
      c.loop-k.invariant.frame.len,
    )

pub bounds-work-o : goal.bounds-work-o
bounds-work-o c = measured_place _ _ _ c.requires.ready _ c.requires.framed _ _ _ c.loop-k.invariant c.loop-k-test.true

pub overflow_add-p-in-loop-k : goal.overflow_add-p-in-loop-k
overflow_add-p-in-loop-k c =
    omega (
      arith,
      measured_within _ _ _ c.requires.ready _ c.requires.framed _ _ _ c.loop-k.invariant c.loop-k-test.true
          c.word-n.ensures,
    )

pub overflow_mul-p : goal.overflow_mul-p
overflow_mul-p c =
    omega (
      arith,
      measured_within _ _ _ c.requires.ready _ c.requires.framed _ _ _ c.loop-k.invariant c.loop-k-test.true
          c.word-n.ensures,
    )

pub overflow_add-p-in-loop-k-2 : goal.overflow_add-p-in-loop-k-2
overflow_add-p-in-loop-k-2 c =
    omega (
      arith,
      measured_within _ _ _ c.requires.ready _ c.requires.framed _ _ _ c.loop-k.invariant c.loop-k-test.true
          c.word-n.ensures,
    )

pub loop-k-preserved : goal.loop-k-preserved
loop-k-preserved c = measured_next _ _ _ c.requires.ready _ c.requires.framed _ _ _ c.loop-k.invariant c.loop-k-test.true
    c.word-n.ensures

pub shape_of-work : goal.shape_of-work
shape_of-work c = c.loop-k.invariant.frame.len

pub returns : goal.returns
returns c = record {
  frame = c.loop-k.invariant.frame;
  shaped = measured_end _ _ _ c.requires.ready _ c.requires.framed _ _ _ c.loop-k.invariant (search rules);
}
