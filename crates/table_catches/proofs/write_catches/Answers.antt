use native.Mathlib.Omega.{arith}
use Rattle.region.specs.RegionLaws.{frame_refl}
use Rattle.table_catches.proofs.TableSteps.{handlers_inside, few_room, few_written, few_end, many_room, first_room, second_room, many_in, many_end, many_written, many_kept}
use Rattle.table_catches.proofs.write_catches.Goals as goal

pub push-requires : goal.push-requires
push-requires c =
    few_room _ _ _ c.requires.framed c.args.table.now _ c.requires.c_in_bounds (omega (arith, c.if-c-le8.true))

pub returns-then-c-le8 : goal.returns-then-c-le8
returns-then-c-le8 c =
    record { table_after = few_written _ _ _ c.requires.framed _ _ _ (omega (arith, c.if-c-le8.true)) c.push.ensures.table_after; value = few_end _ _ _ c.requires.framed _ _ (omega (arith, c.if-c-le8.true)) c.push.ensures.value; frame = frame_refl _ _ }

pub widen-h-requires : goal.widen-h-requires
widen-h-requires c = tt

pub widen-len-requires : goal.widen-len-requires
widen-len-requires c = tt

pub push-second-requires : goal.push-second-requires
push-second-requires c =
    first_room _ _ _ c.requires.ready _ c.requires.framed c.args.table.now _ c.requires.c_in_bounds (omega (arith, c.if-c-le8.false))

pub push-t-requires : goal.push-t-requires
push-t-requires c =
    second_room _ _ _ c.requires.ready _ c.requires.framed c.args.table.now _ c.requires.c_in_bounds (omega (arith, c.if-c-le8.false)) _ _ c.push-second.ensures.table_after c.push-second.ensures.value

pub overflow_add-c : goal.overflow_add-c
overflow_add-c c =
    omega (arith, handlers_inside _ _ _ c.requires.framed, c.requires.ready.room, c.well_formed.1.0)

pub overflow_mul-o : goal.overflow_mul-o
overflow_mul-o c =
    omega (arith, c.requires.ready.room, c.well_formed.1.0)

pub write_positions-requires : goal.write_positions-requires
write_positions-requires c =
    many_in _ _ _ c.requires.ready _ c.requires.framed c.args.table.now _ c.requires.c_in_bounds (omega (arith, c.if-c-le8.false)) _ _ c.push-second.ensures.table_after c.push-second.ensures.value _ _ c.push-t.ensures.table_after c.push-t.ensures.value _ _ c.widen-h.ensures c.widen-len.ensures
    (omega (arith, c.widen-h.ensures, c.struct_known-1.given)) (omega (arith, c.widen-len.ensures, c.struct_known-1.given)) (omega (arith, c.well_formed.1.0))

pub overflow_add-result : goal.overflow_add-result
overflow_add-result c =
    omega (arith, many_room _ _ _ c.requires.ready _ c.requires.framed c.args.table.now _ c.requires.c_in_bounds (omega (arith, c.if-c-le8.false)), c.push-second.ensures.value, c.push-t.ensures.value, c.widen-len.ensures, c.well_formed.1.1.1.1.0)

pub returns : goal.returns
returns c =
    record { table_after = many_written _ _ _ c.requires.ready _ c.requires.framed c.args.table.now _ c.requires.c_in_bounds (omega (arith, c.if-c-le8.false)) _ _ c.push-second.ensures.table_after c.push-second.ensures.value _ _ c.push-t.ensures.table_after c.push-t.ensures.value _ _ c.widen-h.ensures c.widen-len.ensures _ c.write_positions.ensures.table_after; value = many_end _ _ _ c.requires.ready _ c.requires.framed c.args.table.now _ c.requires.c_in_bounds (omega (arith, c.if-c-le8.false)) _ _ c.push-second.ensures.table_after c.push-second.ensures.value _ _ c.push-t.ensures.table_after c.push-t.ensures.value _ _ c.widen-h.ensures c.widen-len.ensures; frame = many_kept _ _ _ c.requires.ready _ c.requires.framed c.args.table.now _ c.requires.c_in_bounds (omega (arith, c.if-c-le8.false)) _ _ c.push-second.ensures.table_after c.push-second.ensures.value _ _ c.push-t.ensures.table_after c.push-t.ensures.value _ _ c.widen-h.ensures c.widen-len.ensures _ c.write_positions.ensures.frame }
