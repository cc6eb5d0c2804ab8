use native.Mathlib.Omega.{arith}
use Rattle.region.specs.RegionLaws.{frame_refl}
use Rattle.table_structs.proofs.Joins.{put}
use Rattle.table_types.proofs.KindSteps.{type_in, struct_sound, struct_body, array_sound, array_body, map_key, map_value, map_body, cell_sound, cell_body, iter_key, iter_value, iter_body, rest_body, body_room, body_put, nothing_put}
use Rattle.table_types.proofs.write_body.Goals as goal

pub overflow_add-q : goal.overflow_add-q
overflow_add-q c = omega (arith, type_in _ _ _ c.requires.sound)

pub write_struct-requires : goal.write_struct-requires
write_struct-requires c =
    record { ready = c.requires.ready; sound = struct_sound _ _ _ c.requires.sound c.word.ensures c.in-1.is; at_struct_in_bounds = body_room _ _ (struct_body _ _ _ c.requires.sound c.word.ensures c.in-1.is) c.args.table.now _ c.requires.q_in_bounds }

pub overflow_add-q-in-2 : goal.overflow_add-q-in-2
overflow_add-q-in-2 c = omega (arith, type_in _ _ _ c.requires.sound)

pub write_one-requires : goal.write_one-requires
write_one-requires c =
    record { ready = c.requires.ready; sound = array_sound _ _ _ c.requires.sound c.word.ensures c.in-2.is; q_in_bounds = body_room _ _ (array_body _ _ _ c.requires.sound c.word.ensures c.in-2.is) c.args.table.now _ c.requires.q_in_bounds }

pub overflow_add-q-in-3 : goal.overflow_add-q-in-3
overflow_add-q-in-3 c = omega (arith, type_in _ _ _ c.requires.sound)

pub write_two-requires : goal.write_two-requires
write_two-requires c =
    record { ready = c.requires.ready; sound = map_key _ _ _ c.requires.sound c.word.ensures c.in-3.is; sound_2 = map_value _ _ _ c.requires.sound c.word.ensures c.in-3.is; q_in_bounds = body_room _ _ (map_body _ _ _ c.requires.sound c.word.ensures c.in-3.is) c.args.table.now _ c.requires.q_in_bounds }

pub overflow_add-q-in-4 : goal.overflow_add-q-in-4
overflow_add-q-in-4 c = omega (arith, type_in _ _ _ c.requires.sound)

pub write_one-requires-in-4 : goal.write_one-requires-in-4
write_one-requires-in-4 c =
    record { ready = c.requires.ready; sound = cell_sound _ _ _ c.requires.sound c.word.ensures c.in-4.is; q_in_bounds = body_room _ _ (cell_body _ _ _ c.requires.sound c.word.ensures c.in-4.is) c.args.table.now _ c.requires.q_in_bounds }

pub overflow_add-q-in-5 : goal.overflow_add-q-in-5
overflow_add-q-in-5 c = omega (arith, type_in _ _ _ c.requires.sound)

pub write_two-requires-in-5 : goal.write_two-requires-in-5
write_two-requires-in-5 c =
    record { ready = c.requires.ready; sound = iter_key _ _ _ c.requires.sound c.word.ensures c.in-5.is; sound_2 = iter_value _ _ _ c.requires.sound c.word.ensures c.in-5.is; q_in_bounds = body_room _ _ (iter_body _ _ _ c.requires.sound c.word.ensures c.in-5.is) c.args.table.now _ c.requires.q_in_bounds }

pub returns-in-1 : goal.returns-in-1
returns-in-1 c =
    let k = body_put _ _ (struct_body _ _ _ c.requires.sound c.word.ensures c.in-1.is) _ _ (put (c.write_struct.ensures.table_after, c.write_struct.ensures.value)) in
    record { table_after = k.done; value = k.next; frame = c.write_struct.ensures.frame }

pub returns-in-2 : goal.returns-in-2
returns-in-2 c =
    let k = body_put _ _ (array_body _ _ _ c.requires.sound c.word.ensures c.in-2.is) _ _ (put (c.write_one.ensures.table_after, c.write_one.ensures.value)) in
    record { table_after = k.done; value = k.next; frame = frame_refl _ _ }

pub returns-in-3 : goal.returns-in-3
returns-in-3 c =
    let k = body_put _ _ (map_body _ _ _ c.requires.sound c.word.ensures c.in-3.is) _ _ (put (c.write_two.ensures.table_after, c.write_two.ensures.value)) in
    record { table_after = k.done; value = k.next; frame = frame_refl _ _ }

pub returns-in-4 : goal.returns-in-4
returns-in-4 c =
    let k = body_put _ _ (cell_body _ _ _ c.requires.sound c.word.ensures c.in-4.is) _ _ (put (c.write_one-in-4.ensures.table_after, c.write_one-in-4.ensures.value)) in
    record { table_after = k.done; value = k.next; frame = frame_refl _ _ }

pub returns-in-5 : goal.returns-in-5
returns-in-5 c =
    let k = body_put _ _ (iter_body _ _ _ c.requires.sound c.word.ensures c.in-5.is) _ _ (put (c.write_two-in-5.ensures.table_after, c.write_two-in-5.ensures.value)) in
    record { table_after = k.done; value = k.next; frame = frame_refl _ _ }

pub returns-in_default : goal.returns-in_default
returns-in_default c =
    let e = rest_body _ _ _ c.requires.sound c.word.ensures c.in_default.in_default-own.rest.0.0.0.0.1 c.in_default.in_default-own.rest.0.0.0.1 c.in_default.in_default-own.rest.0.0.1 c.in_default.in_default-own.rest.0.1 c.in_default.in_default-own.rest.1 in
    let k = nothing_put _ e _ _ in
    record { table_after = k.done; value = k.next; frame = frame_refl _ _ }
