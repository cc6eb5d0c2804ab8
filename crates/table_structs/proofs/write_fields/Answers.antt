use native.Mathlib.Omega.{arith}
use Rattle.table_structs.proofs.Joins.{put, put_one}
use Rattle.table_structs.proofs.StructSteps.{struct_in_lem, field_types, field_present, parent_room, values_room, places_room, fields_put}
use Rattle.table_structs.proofs.write_fields.Goals as goal

pub overflow_add-fields : goal.overflow_add-fields
overflow_add-fields c = omega (arith, struct_in_lem _ _ _ c.requires.sound)

pub overflow_add-at_struct : goal.overflow_add-at_struct
overflow_add-at_struct c = omega (arith, struct_in_lem _ _ _ c.requires.sound)

pub push-p-requires : goal.push-p-requires
push-p-requires c =
    parent_room _ _ _ c.requires.sound c.word-count.ensures c.word-parent.ensures c.args.table.now _ c.requires.at_struct_in_bounds

pub overflow_add-fields-2 : goal.overflow_add-fields-2
overflow_add-fields-2 c = omega (arith, struct_in_lem _ _ _ c.requires.sound)

pub write_values-q-requires : goal.write_values-q-requires
write_values-q-requires c =
    record { ready = c.requires.ready; values = field_types _ _ _ c.requires.sound c.word-count.ensures; n_in_bounds = values_room _ _ _ c.requires.sound c.word-count.ensures c.word-parent.ensures _ _ c.requires.at_struct_in_bounds _ _ (put_one (c.push-p.ensures.table_after, c.push-p.ensures.value)) }

pub overflow_add-fields-3 : goal.overflow_add-fields-3
overflow_add-fields-3 c = omega (arith, struct_in_lem _ _ _ c.requires.sound)

pub write_references-requires : goal.write_references-requires
write_references-requires c =
    record { present = field_present _ _ _ c.requires.sound c.word-count.ensures; n_in_bounds = places_room _ _ _ c.requires.sound c.word-count.ensures c.word-parent.ensures _ _ c.requires.at_struct_in_bounds _ _ (put_one (c.push-p.ensures.table_after, c.push-p.ensures.value)) _ _ (put (c.write_values-q.ensures.table_after, c.write_values-q.ensures.value)) }

pub returns : goal.returns
returns c =
    let k = fields_put _ _ _ c.requires.sound c.word-count.ensures c.word-parent.ensures _ _ c.requires.at_struct_in_bounds _ _ (put_one (c.push-p.ensures.table_after, c.push-p.ensures.value)) _ _ (put (c.write_values-q.ensures.table_after, c.write_values-q.ensures.value)) _ _ (put (c.write_references.ensures.table_after, c.write_references.ensures.value)) in
    record { table_after = k.done; value = k.next }
