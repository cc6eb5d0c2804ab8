use native.Mathlib.Omega.{arith}
use Rattle.table_names.proofs.NameSteps.{method_count, methods_room, method_list_lem, names_room, names_written, names_place, names_frame}
use Rattle.table_names.proofs.write_method_names.Goals as goal

pub gather_methods-requires : goal.gather_methods-requires
gather_methods-requires c = record { ready = c.requires.ready; whole = c.requires.whole; at_value = c.requires.at_methods_value; count_value = method_count _ _ _ c.requires.whole c.word-count.ensures }

pub write_sorted-requires : goal.write_sorted-requires
write_sorted-requires c = let n = method_count _ _ _ c.requires.whole c.word-count.ensures in record { room = methods_room _ _ _ _ _ _ _ c.requires.ready c.gather_methods.ensures c.requires.whole n; n_bound = (omega arith, omega arith); n_in_bounds = names_room _ _ _ _ _ _ c.gather_methods.ensures (method_list_lem _ _ _ n) _ _ c.requires.at_methods_in_bounds }

pub returns : goal.returns
returns c = let n = method_count _ _ _ c.requires.whole c.word-count.ensures in let k = method_list_lem _ _ _ n in record { table_after = names_written _ _ _ _ _ _ c.gather_methods.ensures k _ _ _ c.write_sorted.ensures.table_after; value = names_place _ _ _ _ _ _ c.gather_methods.ensures k _ _ c.write_sorted.ensures.value; frame = names_frame _ _ _ _ _ _ c.gather_methods.ensures k _ c.write_sorted.ensures.frame }
