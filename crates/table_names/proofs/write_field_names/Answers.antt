use native.Mathlib.Omega.{arith}
use Rattle.table_names.proofs.NameSteps.{named_count, fields_room, field_list_lem, names_room, names_written, names_place, names_frame}
use Rattle.table_names.proofs.write_field_names.Goals as goal

pub gather_fields-requires : goal.gather_fields-requires
gather_fields-requires c = record { ready = c.requires.ready; whole = c.requires.whole; at_value = c.requires.at_fields_value; count_value = named_count _ _ _ c.requires.whole c.word.ensures c.least-count.ensures }

pub write_sorted-requires : goal.write_sorted-requires
write_sorted-requires c = let n = named_count _ _ _ c.requires.whole c.word.ensures c.least-count.ensures in record { room = fields_room _ _ _ _ _ _ _ c.requires.ready c.gather_fields.ensures c.requires.whole n; n_bound = (omega (arith, c.least-count.ensures), omega arith); n_in_bounds = names_room _ _ _ _ _ _ c.gather_fields.ensures (field_list_lem _ _ _ n) _ _ c.requires.at_fields_in_bounds }

pub returns : goal.returns
returns c = let n = named_count _ _ _ c.requires.whole c.word.ensures c.least-count.ensures in let k = field_list_lem _ _ _ n in record { table_after = names_written _ _ _ _ _ _ c.gather_fields.ensures k _ _ _ c.write_sorted.ensures.table_after; value = names_place _ _ _ _ _ _ c.gather_fields.ensures k _ _ c.write_sorted.ensures.value; frame = names_frame _ _ _ _ _ _ c.gather_fields.ensures k _ c.write_sorted.ensures.frame }
