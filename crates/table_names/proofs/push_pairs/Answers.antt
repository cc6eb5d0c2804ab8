use native.Mathlib.Omega.{arith}
use Rattle.table_names.proofs.WriteSteps.{pushes_start, pushes_next, pushes_end, pushes_room}
use Rattle.table_names.proofs.push_pairs.Goals as goal

pub loop-i-init : goal.loop-i-init
loop-i-init c = pushes_start _ _ _ _ _ c.requires.n_in_bounds_2

pub overflow_mul-i : goal.overflow_mul-i
overflow_mul-i c = omega arith

pub overflow_add-a : goal.overflow_add-a
overflow_add-a c = omega arith

pub push_pair-p-requires : goal.push_pair-p-requires
push_pair-p-requires c = (omega (arith, c.requires.n_in_bounds), pushes_room _ _ _ _ _ c.requires.n_in_bounds_2 _ _ _ c.loop-i.invariant (omega arith))

pub loop-i-preserved : goal.loop-i-preserved
loop-i-preserved c = pushes_next _ _ _ _ _ c.requires.n_in_bounds_2 _ _ _ c.loop-i.invariant _ _ (omega arith) c.push_pair-p.ensures.table_after c.push_pair-p.ensures.value

pub shape_of-table : goal.shape_of-table
shape_of-table c = c.loop-i.invariant.len

pub returns : goal.returns
returns c = record { table_after = pushes_end _ _ _ _ _ c.requires.n_in_bounds_2 _ _ _ c.loop-i.invariant (omega arith); value = omega (arith, c.loop-i.invariant.place, c.loop-i.invariant.few) }
