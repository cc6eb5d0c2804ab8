use native.Mathlib.Omega.{arith}
use Rattle.table_funcs.proofs.HeadSteps.{regs_in, regs_good, head_first, head_room, head_written, head_place}
use Rattle.table_funcs.proofs.write_head.Goals as goal

pub write_counts-p-requires : goal.write_counts-p-requires
write_counts-p-requires c = record { ready = c.requires.ready; sound = c.requires.sound; c_in_bounds = head_first _ _ c.requires.sound c.args.table.now _ c.requires.c_in_bounds }

pub overflow_add-c : goal.overflow_add-c
overflow_add-c c = omega (arith, regs_in _ _ _ c.requires.sound, c.requires.ready.room, c.well_formed.1.0)

pub write_values-requires : goal.write_values-requires
write_values-requires c = record { ready = c.requires.ready; values = regs_good _ _ c.requires.sound; n_in_bounds = head_room _ _ c.requires.sound c.args.table.now _ c.requires.c_in_bounds _ _ c.write_counts-p.ensures.table_after c.write_counts-p.ensures.value }

pub returns : goal.returns
returns c = record { table_after = head_written _ _ c.requires.sound c.args.table.now _ c.requires.c_in_bounds _ _ c.write_counts-p.ensures.table_after c.write_counts-p.ensures.value c.write_values.ensures.table_after; value = head_place _ _ c.requires.sound c.args.table.now _ c.requires.c_in_bounds _ _ c.write_counts-p.ensures.table_after c.write_counts-p.ensures.value c.write_values.ensures.value }
