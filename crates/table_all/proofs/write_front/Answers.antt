use Rattle.table_all.proofs.Sections.{funcs_room, types_room, imports_room, hooks_space, front_written, front_at, still_ready, both_kept, places_kept, hook_place}
use Rattle.table_all.proofs.write_front.Goals as goal

pub write_funcs-types-requires : goal.write_funcs-types-requires
write_funcs-types-requires c = record { ready = c.requires.ready; words_bound = c.requires.words_bound; o_value = c.requires.clear.types; o_value_2 = c.requires.clear.funcs; o_in_bounds = funcs_room _ _ _ c.args.table.now _ c.requires.o_in_bounds }

pub write_types-imports-requires : goal.write_types-imports-requires
write_types-imports-requires c = record { ready = still_ready _ _ _ c.requires.ready c.write_funcs-types.ensures.frame; o_value = c.requires.clear.types; o_in_bounds = types_room _ _ _ c.args.table.now _ c.requires.o_in_bounds c.write_funcs-types.ensures.table_after c.write_funcs-types.ensures.value }

pub write_imports-hooks-requires : goal.write_imports-hooks-requires
write_imports-hooks-requires c = record { ready = still_ready _ _ _ (still_ready _ _ _ c.requires.ready c.write_funcs-types.ensures.frame) c.write_types-imports.ensures.frame; sigs_inside = c.requires.clear.signed; o_in_bounds = imports_room _ _ _ c.args.table.now _ c.requires.o_in_bounds c.write_funcs-types.ensures.table_after c.write_funcs-types.ensures.value c.write_types-imports.ensures.table_after c.write_types-imports.ensures.value _ (places_kept _ _ _ c.requires.ready c.write_funcs-types.ensures.frame c.write_types-imports.ensures.frame) }

pub write_hooks-end-requires : goal.write_hooks-end-requires
write_hooks-end-requires c = record { opens = c.requires.ready.opens; bindings_fit = c.requires.clear.hooks; at_in_bounds = hooks_space _ _ _ c.args.table.now _ c.requires.o_in_bounds c.write_funcs-types.ensures.table_after c.write_funcs-types.ensures.value c.write_types-imports.ensures.table_after c.write_types-imports.ensures.value _ (places_kept _ _ _ c.requires.ready c.write_funcs-types.ensures.frame c.write_types-imports.ensures.frame) c.write_imports-hooks.ensures.table_after c.write_imports-hooks.ensures.value }

pub returns : goal.returns
returns c = record { table_after = front_written _ _ _ c.args.table.now _ c.requires.o_in_bounds c.write_funcs-types.ensures.table_after c.write_funcs-types.ensures.value c.write_types-imports.ensures.table_after c.write_types-imports.ensures.value _ (places_kept _ _ _ c.requires.ready c.write_funcs-types.ensures.frame c.write_types-imports.ensures.frame) c.write_imports-hooks.ensures.table_after c.write_imports-hooks.ensures.value c.write_hooks-end.ensures.table_after; front_at = front_at _ _ _ c.args.table.now _ c.requires.o_in_bounds c.write_funcs-types.ensures.table_after c.write_funcs-types.ensures.value c.write_types-imports.ensures.table_after c.write_types-imports.ensures.value _ (places_kept _ _ _ c.requires.ready c.write_funcs-types.ensures.frame c.write_types-imports.ensures.frame) c.write_imports-hooks.ensures.table_after c.write_imports-hooks.ensures.value (hook_place _ _ c.write_hooks-end.ensures.value); frame = both_kept _ _ _ c.requires.ready c.write_funcs-types.ensures.frame c.write_types-imports.ensures.frame }
