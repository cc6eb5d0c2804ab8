use borrow.Author.Rules.{rules}
use native.Mathlib.Omega.{arith}
use mathlib.Core.Path.{ap, ◌∙◌}
use lib.ListN.{length}
use Rattle.reader.specs.ValueLaws.{list_within}
use Rattle.reader.specs.Reader.{list_of}
use Rattle.sheet.specs.Decode.{arg_of}
use Rattle.rule_lists.proofs.ListSteps.{shape_inside, shaping_start, shaping_ready, shaping_whole, shaping_end, shaping_stop, shaping_next}
use Rattle.rule_lists.proofs.check_shapes.Goals as goal

pub overflow_add-p : goal.overflow_add-p
overflow_add-p c = omega (arith, list_within (list_of arg_of) _ _ _ c.requires.whole, c.requires.ready.room)

pub loop-init : goal.loop-init
loop-init c = shaping_start _ _ _ _ c.requires.whole c.word-end.ensures

pub check_shape-requires : goal.check_shape-requires
check_shape-requires c = record {
  ready = shaping_ready _ _ _ _ _ _ _ _ c.loop.invariant c.requires.ready;
  whole = shaping_whole _ _ _ _ _ _ _ _ c.loop.invariant c.loop-test.true;
}

pub shape_of-work-in_err-check_shape : goal.shape_of-work-in_err-check_shape
shape_of-work-in_err-check_shape c = ap length (c.check_shape.ensures.work_unchanged ∙ c.loop.invariant.kept)

pub returns-in_err-check_shape : goal.returns-in_err-check_shape
returns-in_err-check_shape c =
    let s = shaping_stop _ _ _ _ _ _ _ _ c.loop.invariant c.loop-test.true _
    (c.in_err-check_shape.was {u = tt}) c.check_shape.ensures.value in
    record { value = search (rules, s); work_unchanged = c.check_shape.ensures.work_unchanged ∙ c.loop.invariant.kept }

pub overflow_mul-p : goal.overflow_mul-p
overflow_mul-p c = omega (
  arith,
  shape_inside _ _ _ c.requires.ready _
      (shaping_whole _ _ _ _ _ _ _ _ c.loop.invariant c.loop-test.true) c.word.ensures,
  c.requires.ready.room,
)

pub overflow_add-p-in-loop : goal.overflow_add-p-in-loop
overflow_add-p-in-loop c = omega (
  arith,
  shape_inside _ _ _ c.requires.ready _
      (shaping_whole _ _ _ _ _ _ _ _ c.loop.invariant c.loop-test.true) c.word.ensures,
  c.requires.ready.room,
)

pub overflow_add-p-in-loop-2 : goal.overflow_add-p-in-loop-2
overflow_add-p-in-loop-2 c = omega (
  arith,
  shape_inside _ _ _ c.requires.ready _
      (shaping_whole _ _ _ _ _ _ _ _ c.loop.invariant c.loop-test.true) c.word.ensures,
  c.requires.ready.room,
)

pub loop-preserved : goal.loop-preserved
loop-preserved c = shaping_next _ _ _ _ _ _ _ _ c.loop.invariant c.loop-test.true
    (c.in_ok-check_shape.was {u = tt}) c.check_shape.ensures.value c.check_shape.ensures.work_unchanged c.word.ensures

pub shape_of-work : goal.shape_of-work
shape_of-work c = ap length c.loop.invariant.kept

pub returns : goal.returns
returns c = record { value = shaping_end _ _ _ _ _ _ _ _ c.loop.invariant c.loop-test.false; work_unchanged = c.loop.invariant.kept }
