use native.Mathlib.Omega.{arith}
use Rattle.reader.specs.ValueLaws.{list_within}
use Rattle.sheet.specs.Decode.{arg_of}
use Rattle.rule_lists.proofs.ListSteps.{shape_inside, shape_holds, shape_broken}
use Rattle.rule_lists.proofs.check_shape.Goals as goal

pub overflow_add-at : goal.overflow_add-at
overflow_add-at c = omega (arith, list_within arg_of _ _ _ c.requires.whole, c.requires.ready.room)

pub are_valid-requires : goal.are_valid-requires
are_valid-requires c = record { ready = c.requires.ready; count_bound = shape_inside _ _ _ c.requires.ready _ c.requires.whole c.word.ensures }

pub returns-then-are_valid : goal.returns-then-are_valid
returns-then-are_valid c = record { value = shape_holds _ _ _ c.requires.ready _ c.requires.whole c.word.ensures c.if-are_valid.true c.are_valid.ensures.value; work_unchanged = c.are_valid.ensures.work_unchanged }

pub returns : goal.returns
returns c = record { value = shape_broken _ _ _ c.requires.ready _ c.requires.whole c.word.ensures c.if-are_valid.false c.are_valid.ensures.value; work_unchanged = c.are_valid.ensures.work_unchanged }
