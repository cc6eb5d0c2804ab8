use native.Mathlib.Omega.{arith}
use Rattle.table_hooks.proofs.BindSteps.{hooks_within, binds_start, binds_length, binds_room, binds_frame, binds_end, binds_at, binds_turn}
use Rattle.table_hooks.proofs.put_bindings.Goals as goal

pub overflow_add-p : goal.overflow_add-p
overflow_add-p c = omega (arith, hooks_within _ _ c.requires.opens)

pub loop-init : goal.loop-init
loop-init c =
    binds_start _ _ c.requires.opens _ _ c.requires.bindings_fit c.requires.by_index c.word-end.ensures

pub put_binding-requires : goal.put_binding-requires
put_binding-requires c = record { binding_at = binds_at _ _ _ _ _ _ _ _ c.loop.invariant (omega arith); first_in_bounds = binds_room _ _ _ _ _ _ _ _ c.loop.invariant c.requires.first_in_bounds }

pub overflow_add-p-in-loop : goal.overflow_add-p-in-loop
overflow_add-p-in-loop c = omega (arith, (binds_at _ _ _ _ _ _ _ _ c.loop.invariant (omega arith)).within)

pub loop-preserved : goal.loop-preserved
loop-preserved c = binds_turn _ _ _ _ _ _ _ _ _ c.loop.invariant c.loop-test.true _ c.requires.first_in_bounds c.put_binding.ensures

pub shape_of-table : goal.shape_of-table
shape_of-table c = binds_length _ _ _ _ _ _ _ _ c.loop.invariant

pub returns : goal.returns
returns c = record { frame = binds_frame _ _ _ _ _ _ _ _ c.loop.invariant; by_index_2 = binds_end _ _ _ _ _ _ _ _ c.loop.invariant (omega arith) }
