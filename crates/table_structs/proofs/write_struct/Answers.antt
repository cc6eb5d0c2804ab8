use Rattle.table_structs.proofs.Joins.{put}
use Rattle.table_structs.proofs.StructSteps.{fields_room, names_room, struct_put}
use Rattle.table_structs.proofs.write_struct.Goals as goal

pub write_fields-p-requires : goal.write_fields-p-requires
write_fields-p-requires c =
    record { ready = c.requires.ready; sound = c.requires.sound; at_struct_in_bounds = fields_room _ _ c.args.table.now _ c.requires.at_struct_in_bounds }

pub write_names-requires : goal.write_names-requires
write_names-requires c =
    record { ready = c.requires.ready; sound = c.requires.sound; at_struct_in_bounds = names_room _ _ _ _ c.requires.at_struct_in_bounds _ _ (put (c.write_fields-p.ensures.table_after, c.write_fields-p.ensures.value)) }

pub returns : goal.returns
returns c =
    let k = struct_put _ _ _ _ c.requires.at_struct_in_bounds _ _ (put (c.write_fields-p.ensures.table_after, c.write_fields-p.ensures.value)) _ _ (put (c.write_names.ensures.table_after, c.write_names.ensures.value)) in
    record { table_after = k.done; value = k.next; frame = c.write_names.ensures.frame }
