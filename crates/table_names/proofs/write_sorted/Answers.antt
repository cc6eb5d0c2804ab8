use native.Mathlib.Omega.{arith}
use Rattle.table_names.proofs.WriteSteps.{sorted_in, sorted_room, sorted_written, sorted_place, sorted_frame}
use Rattle.table_names.proofs.write_sorted.Goals as goal

pub write_pairs-requires : goal.write_pairs-requires
write_pairs-requires c = record { n_in_bounds = sorted_in _ _ _ _ _ _ c.sort_names-kept.ensures c.requires.room (omega arith); n_in_bounds_2 = sorted_room _ _ _ _ _ _ c.sort_names-kept.ensures _ _ c.requires.n_in_bounds }

pub returns : goal.returns
returns c = record { table_after = sorted_written _ _ _ _ _ _ c.sort_names-kept.ensures _ _ _ c.write_pairs.ensures.table_after; value = sorted_place _ _ _ _ _ _ c.sort_names-kept.ensures _ _ c.write_pairs.ensures.value; frame = sorted_frame _ _ _ _ _ _ c.sort_names-kept.ensures c.requires.n_bound.1 }
