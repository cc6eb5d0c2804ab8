use borrow.Author.Rules.{rules}
use native.Mathlib.Omega.{arith}
use Rattle.open_sheet.specs.ReadyLaws.{callees_inside}
use Rattle.rule7_arguments.proofs.ArgumentSteps.{indexing_start, indexing_ready, indexing_place}
use Rattle.rule7_arguments.proofs.ArgumentSteps.{indexing_next, indexing_end}
use Rattle.rule7_arguments.proofs.index_fewest.Goals as goal

pub overflow_mul-base : goal.overflow_mul-base
overflow_mul-base c =
    omega (arith, c.requires.room)

pub overflow_cast-base : goal.overflow_cast-base
overflow_cast-base c =
    omega (arith, c.requires.room, callees_inside _ _ _ c.requires)

pub overflow_add-base : goal.overflow_add-base
overflow_add-base c =
    omega (arith, c.requires.room, callees_inside _ _ _ c.requires)

pub loop-j-init : goal.loop-j-init
loop-j-init c = search (rules, indexing_start)

pub fewest_of-requires : goal.fewest_of-requires
fewest_of-requires c = search (rules, indexing_ready)

pub overflow_cast-work : goal.overflow_cast-work
overflow_cast-work c =
    omega (arith, c.loop-j-test.true, c.requires.room, callees_inside _ _ _ c.requires)

pub overflow_add-work : goal.overflow_add-work
overflow_add-work c =
    omega (arith, indexing_place _ _ _ c.requires _ _ c.loop-j.invariant c.loop-j-test.true, c.loop-j.invariant.frame.len)

pub offset_bounds-work-base : goal.offset_bounds-work-base
offset_bounds-work-base c =
    omega (arith, indexing_place _ _ _ c.requires _ _ c.loop-j.invariant c.loop-j-test.true, c.loop-j.invariant.frame.len)

pub bounds-work-base : goal.bounds-work-base
bounds-work-base c = search (rules, indexing_place)

pub loop-j-preserved : goal.loop-j-preserved
loop-j-preserved c = search (rules, indexing_next)

pub shape_of-work : goal.shape_of-work
shape_of-work c = c.loop-j.invariant.frame.len

pub returns : goal.returns
returns c =
    record { frame = c.loop-j.invariant.frame; fewest = indexing_end _ _ _ c.requires _ _ c.loop-j.invariant (search rules) }
