use native.Mathlib.Omega.{arith}
use Rattle.table_hooks.proofs.BindSteps.{slots_room, zeros_room, hooks_written}
use Rattle.table_hooks.proofs.write_hooks.Goals as goal

pub push-first-requires : goal.push-first-requires
push-first-requires c = omega (arith, c.requires.at_in_bounds)

pub fill-requires : goal.fill-requires
fill-requires c =
    (slots_room c.args.table.now _ c.requires.at_in_bounds _ _ c.push-first.ensures.table_after c.push-first.ensures.value, omega arith)

pub put_bindings-requires : goal.put_bindings-requires
put_bindings-requires c =
    record { opens = c.requires.opens; bindings_fit = c.requires.bindings_fit; first_in_bounds = zeros_room c.args.table.now _ c.requires.at_in_bounds _ _ c.push-first.ensures.table_after c.push-first.ensures.value _ c.fill.ensures.frame; by_index = c.fill.ensures.by_index }

pub overflow_add-result : goal.overflow_add-result
overflow_add-result c =
    omega (arith, c.requires.at_in_bounds, c.push-first.ensures.value, c.well_formed.1.1.0)

pub returns : goal.returns
returns c =
    record { table_after = hooks_written c.args.table.now _ c.requires.at_in_bounds _ _ c.push-first.ensures.table_after c.push-first.ensures.value _ c.fill.ensures.frame _ _ c.put_bindings.ensures.frame c.put_bindings.ensures.by_index_2; value = omega (arith, c.push-first.ensures.value) }
