use Rattle.table_funcs.proofs.TailSteps.{sound_framed, names_whole, names_good, refs_whole, refs_good, tail_first, tail_second, tail_third, tail_written, tail_place}
use Rattle.table_funcs.proofs.write_tail.Goals as goal

pub write_names-p-requires : goal.write_names-p-requires
write_names-p-requires c = record { ready = c.requires.ready; whole = names_whole _ _ c.requires.sound; names_at_value = names_good _ _ c.requires.sound; names_at_in_bounds = tail_first _ _ c.requires.sound c.args.table.now _ c.requires.c_in_bounds }

pub write_type_refs-q-requires : goal.write_type_refs-q-requires
write_type_refs-q-requires c = record { ready = c.requires.ready; whole = refs_whole _ _ c.requires.sound; refs_at_value = refs_good _ _ c.requires.sound; refs_at_in_bounds = tail_second _ _ c.requires.sound c.args.table.now _ c.requires.c_in_bounds _ _ c.write_names-p.ensures.table_after c.write_names-p.ensures.value }

pub write_catches-requires : goal.write_catches-requires
write_catches-requires c = record { ready = c.requires.ready; framed = sound_framed _ _ c.requires.sound; c_in_bounds = tail_third _ _ c.requires.sound c.args.table.now _ c.requires.c_in_bounds _ _ c.write_names-p.ensures.table_after c.write_names-p.ensures.value _ _ c.write_type_refs-q.ensures.table_after c.write_type_refs-q.ensures.value }

pub returns : goal.returns
returns c = record { table_after = tail_written _ _ c.requires.sound c.args.table.now _ c.requires.c_in_bounds _ _ c.write_names-p.ensures.table_after c.write_names-p.ensures.value _ _ c.write_type_refs-q.ensures.table_after c.write_type_refs-q.ensures.value c.write_catches.ensures.table_after; value = tail_place _ _ c.requires.sound c.args.table.now _ c.requires.c_in_bounds _ _ c.write_names-p.ensures.table_after c.write_names-p.ensures.value _ _ c.write_type_refs-q.ensures.table_after c.write_type_refs-q.ensures.value c.write_catches.ensures.value; frame = c.write_catches.ensures.frame }
