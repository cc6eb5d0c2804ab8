use borrow.Author.Rules.{rules}
use native.Mathlib.Omega.{arith}
use Rattle.rule2_types.proofs.KindRules.{type_in, kind_func_whole, kind_struct_whole, kind_array_whole, kind_map_whole, kind_cell_whole, kind_iter_whole, kind_func, kind_struct, kind_array, kind_map, kind_cell, kind_iter, kind_rest}
use Rattle.rule2_types.proofs.kinds.check_type.Goals as goal

pub overflow_add-at : goal.overflow_add-at
overflow_add-at c = omega (arith, type_in)

pub check_sig-requires : goal.check_sig-requires
check_sig-requires c = search (rules, kind_func_whole)

pub overflow_add-at-in-1 : goal.overflow_add-at-in-1
overflow_add-at-in-1 c = omega (arith, type_in)

pub check_struct-requires : goal.check_struct-requires
check_struct-requires c = search (rules, kind_struct_whole)

pub overflow_add-at-in-2 : goal.overflow_add-at-in-2
overflow_add-at-in-2 c = omega (arith, type_in)

pub check_value-requires : goal.check_value-requires
check_value-requires c = search (rules, kind_array_whole)

pub overflow_add-at-in-3 : goal.overflow_add-at-in-3
overflow_add-at-in-3 c = omega (arith, type_in)

pub check_two-requires : goal.check_two-requires
check_two-requires c = search (rules, kind_map_whole)

pub overflow_add-at-in-4 : goal.overflow_add-at-in-4
overflow_add-at-in-4 c = omega (arith, type_in)

pub check_value-requires-in-4 : goal.check_value-requires-in-4
check_value-requires-in-4 c = search (rules, kind_cell_whole)

pub overflow_add-at-in-5 : goal.overflow_add-at-in-5
overflow_add-at-in-5 c = omega (arith, type_in)

pub check_two-requires-in-5 : goal.check_two-requires-in-5
check_two-requires-in-5 c = search (rules, kind_iter_whole)

pub returns-in-0 : goal.returns-in-0
returns-in-0 c = search (rules, kind_func)

pub returns-in-1 : goal.returns-in-1
returns-in-1 c = search (rules, kind_struct)

pub returns-in-2 : goal.returns-in-2
returns-in-2 c = search (rules, kind_array)

pub returns-in-3 : goal.returns-in-3
returns-in-3 c = search (rules, kind_map)

pub returns-in-4 : goal.returns-in-4
returns-in-4 c = search (rules, kind_cell)

pub returns-in-5 : goal.returns-in-5
returns-in-5 c = search (rules, kind_iter)

pub returns-in_default : goal.returns-in_default
returns-in_default c = search (rules, kind_rest)
