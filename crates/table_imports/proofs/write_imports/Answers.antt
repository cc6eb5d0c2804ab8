use Rattle.table_imports.proofs.ImportSteps.{count_room, imports_room, imports_written, imports_end}
use Rattle.table_imports.proofs.write_imports.Goals as goal

pub push-first-requires : goal.push-first-requires
push-first-requires c = count_room _ _ _ c.requires.ready c.args.table.now _ c.requires.o_in_bounds

pub write_each_import-requires : goal.write_each_import-requires
write_each_import-requires c =
    record { ready = c.requires.ready; sigs_inside = c.requires.sigs_inside; imports_in_bounds = imports_room _ _ _ c.requires.ready c.args.table.now _ c.requires.o_in_bounds _ _ _ c.push-first.ensures.table_after c.push-first.ensures.value }

pub returns : goal.returns
returns c =
    record { table_after = imports_written _ _ _ c.requires.ready c.args.table.now _ c.requires.o_in_bounds _ _ c.push-first.ensures.table_after c.push-first.ensures.value _ c.write_each_import.ensures.table_after; value = imports_end _ _ _ c.requires.ready c.args.table.now _ c.requires.o_in_bounds _ _ c.push-first.ensures.table_after c.push-first.ensures.value _ c.write_each_import.ensures.value }
