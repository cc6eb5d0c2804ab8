use native.Mathlib.Omega.{arith}
use Rattle.table_globals.proofs.GlobalSteps.{globals_in, global_types, globals_room, globals_written, globals_place}
use Rattle.table_globals.proofs.write_globals.Goals as goal

pub overflow_add-globals : goal.overflow_add-globals
overflow_add-globals c = omega (arith, globals_in _ _ c.requires.ready.opens)

pub write_values-requires : goal.write_values-requires
write_values-requires c =
    record { ready = c.requires.ready; values = global_types _ _ c.requires.ready.opens c.requires.o_value; n_in_bounds = globals_room _ _ c.requires.ready.opens _ _ c.requires.o_in_bounds }

pub returns : goal.returns
returns c =
    record { table_after = globals_written _ _ c.requires.ready.opens _ _ _ c.write_values.ensures.table_after; value = globals_place _ _ c.requires.ready.opens _ _ c.write_values.ensures.value }
