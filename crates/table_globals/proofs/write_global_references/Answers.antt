use native.Mathlib.Omega.{arith}
use Rattle.table_globals.proofs.GlobalSteps.{globals_in, global_present, references_room, references_written, references_place}
use Rattle.table_globals.proofs.write_global_references.Goals as goal

pub overflow_add-globals : goal.overflow_add-globals
overflow_add-globals c = omega (arith, globals_in _ _ c.requires.opens)

pub write_references-requires : goal.write_references-requires
write_references-requires c =
    record { present = global_present _ _ c.requires.opens; n_in_bounds = references_room _ _ c.requires.opens 4294967295 (omega (arith, c.well_formed.1.0)) _ _ c.requires.o_in_bounds }

pub returns : goal.returns
returns c =
    record { table_after = references_written _ _ c.requires.opens 4294967295 (omega (arith, c.well_formed.1.0)) _ _ _ c.write_references.ensures.table_after; value = references_place _ _ c.requires.opens 4294967295 (omega (arith, c.well_formed.1.0)) _ _ c.write_references.ensures.value }
