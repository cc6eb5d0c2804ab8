use native.Mathlib.Omega.{arith}
use Rattle.table_structs.proofs.Joins.{put, frame_both, ready_still}
use Rattle.table_structs.proofs.StructSteps.{struct_in_lem, fields_whole, names_hold, methods_whole, methods_hold, field_names_room, method_names_room, names_put}
use Rattle.table_structs.proofs.write_names.Goals as goal

pub overflow_add-fields : goal.overflow_add-fields
overflow_add-fields c = omega (arith, struct_in_lem _ _ _ c.requires.sound)

pub overflow_add-methods : goal.overflow_add-methods
overflow_add-methods c = omega (arith, struct_in_lem _ _ _ c.requires.sound)

pub overflow_add-methods-2 : goal.overflow_add-methods-2
overflow_add-methods-2 c = omega (arith, struct_in_lem _ _ _ c.requires.sound, c.word-count.ensures)

pub write_field_names-p-requires : goal.write_field_names-p-requires
write_field_names-p-requires c =
    record { ready = c.requires.ready; whole = fields_whole _ _ _ c.requires.sound; at_fields_value = names_hold _ _ _ c.requires.sound; at_fields_in_bounds = field_names_room _ _ _ c.requires.sound c.word-count.ensures c.args.table.now _ c.requires.at_struct_in_bounds }

pub write_method_names-requires : goal.write_method_names-requires
write_method_names-requires c =
    record { ready = ready_still _ _ _ c.requires.ready _ c.write_field_names-p.ensures.frame; whole = methods_whole _ _ _ c.requires.sound c.word-count.ensures; at_methods_value = methods_hold _ _ _ c.requires.sound c.word-count.ensures; at_methods_in_bounds = method_names_room _ _ _ c.requires.sound c.word-count.ensures _ _ c.requires.at_struct_in_bounds _ _ (put (c.write_field_names-p.ensures.table_after, c.write_field_names-p.ensures.value)) }

pub returns : goal.returns
returns c =
    let k = names_put _ _ _ c.requires.sound c.word-count.ensures _ _ c.requires.at_struct_in_bounds _ _ (put (c.write_field_names-p.ensures.table_after, c.write_field_names-p.ensures.value)) _ _ (put (c.write_method_names.ensures.table_after, c.write_method_names.ensures.value)) in
    record { table_after = k.done; value = k.next; frame = frame_both c.args.o.layout.words _ _ _ c.write_field_names-p.ensures.frame c.write_method_names.ensures.frame }
