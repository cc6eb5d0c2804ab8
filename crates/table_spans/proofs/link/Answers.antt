use native.Mathlib.Omega.{arith}
use Rattle.table_spans.proofs.LinkSteps.{list_room, list_still, next_room, link_done, link_passed}
use Rattle.table_spans.proofs.link.Goals as goal

pub overflow_mul-o : goal.overflow_mul-o
overflow_mul-o c = omega (arith, c.requires.ready.room, c.well_formed.1.0)

pub overflow_add-o : goal.overflow_add-o
overflow_add-o c = omega (arith, next_room _ _ _ c.requires.ready c.requires.o_value _ c.requires.t_lt_types, c.well_formed.1.0)

pub copy_word-requires : goal.copy_word-requires
copy_word-requires c = (list_room _ _ _ c.requires.ready c.requires.o_value _ c.parent_of.ensures c.widen.ensures, next_room _ _ _ c.requires.ready c.requires.o_value _ c.requires.t_lt_types)

pub put-requires : goal.put-requires
put-requires c = (list_still _ _ _ c.requires.ready c.requires.o_value _ _ c.parent_of.ensures c.widen.ensures c.copy_word.ensures, omega (arith, c.struct_known-then-is_struct-3-1.given))

pub returns-then-is_struct : goal.returns-then-is_struct
returns-then-is_struct c = record { linking_2 = (link_done _ _ _ c.requires.ready c.requires.o_value _ _ _ c.requires.t_lt_types c.requires.linking c.if-is_struct.true c.is_struct.ensures c.parent_of.ensures c.widen.ensures c.copy_word.ensures c.put.ensures).0; frame = (link_done _ _ _ c.requires.ready c.requires.o_value _ _ _ c.requires.t_lt_types c.requires.linking c.if-is_struct.true c.is_struct.ensures c.parent_of.ensures c.widen.ensures c.copy_word.ensures c.put.ensures).1 }

pub returns-else-is_struct : goal.returns-else-is_struct
returns-else-is_struct c = record { linking_2 = (link_passed _ _ _ c.requires.ready c.requires.o_value _ c.requires.t_lt_types c.requires.linking c.if-is_struct.false c.is_struct.ensures).0; frame = (link_passed _ _ _ c.requires.ready c.requires.o_value _ c.requires.t_lt_types c.requires.linking c.if-is_struct.false c.is_struct.ensures).1 }
