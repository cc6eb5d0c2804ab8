use Rattle.table_all.proofs.Sections.{canon_space, globals_room, references_room, spans_room, back_written, back_at, canon_place}
use Rattle.table_all.proofs.write_back.Goals as goal

pub write_canon-globals-requires : goal.write_canon-globals-requires
write_canon-globals-requires c = record { ready = c.requires.ready; o_in_bounds = canon_space _ c.args.table.now _ c.requires.o_in_bounds }

pub write_globals-references-requires : goal.write_globals-references-requires
write_globals-references-requires c = record { ready = c.requires.ready; o_value = c.requires.clear.globals; o_in_bounds = globals_room _ c.args.table.now _ c.requires.o_in_bounds c.write_canon-globals.ensures.table_after (canon_place _ _ c.write_canon-globals.ensures.value) }

pub write_global_references-spans-requires : goal.write_global_references-spans-requires
write_global_references-spans-requires c = record { opens = c.requires.ready.opens; o_in_bounds = references_room _ c.args.table.now _ c.requires.o_in_bounds c.write_canon-globals.ensures.table_after (canon_place _ _ c.write_canon-globals.ensures.value) c.write_globals-references.ensures.table_after c.write_globals-references.ensures.value }

pub write_spans-end-requires : goal.write_spans-end-requires
write_spans-end-requires c = record { ready = c.requires.ready; o_value = c.requires.clear.parents; o_in_bounds = spans_room _ c.args.table.now _ c.requires.o_in_bounds c.write_canon-globals.ensures.table_after (canon_place _ _ c.write_canon-globals.ensures.value) c.write_globals-references.ensures.table_after c.write_globals-references.ensures.value c.write_global_references-spans.ensures.table_after c.write_global_references-spans.ensures.value }

pub returns : goal.returns
returns c = record { table_after = back_written _ c.args.table.now _ c.requires.o_in_bounds c.write_canon-globals.ensures.table_after (canon_place _ _ c.write_canon-globals.ensures.value) c.write_globals-references.ensures.table_after c.write_globals-references.ensures.value c.write_global_references-spans.ensures.table_after c.write_global_references-spans.ensures.value c.write_spans-end.ensures.table_after; back_at = back_at _ c.args.table.now _ c.requires.o_in_bounds c.write_canon-globals.ensures.table_after (canon_place _ _ c.write_canon-globals.ensures.value) c.write_globals-references.ensures.table_after c.write_globals-references.ensures.value c.write_global_references-spans.ensures.table_after c.write_global_references-spans.ensures.value c.write_spans-end.ensures.value }
