use borrow.Author.Rules.{rules}
use Rattle.open_types.proofs.TypeSteps.{type_func, type_struct, type_array, type_map, type_cell, type_iter, type_coroutine, type_unlisted, type_past}
use Rattle.open_types.proofs.skip_type.Goals as goal

pub returns-then-n-at : goal.returns-then-n-at
returns-then-n-at c = search (rules, type_func, type_struct, type_array, type_map, type_cell, type_iter, type_coroutine, type_unlisted, type_past)

pub returns-in-0 : goal.returns-in-0
returns-in-0 c = search (rules, type_func, type_struct, type_array, type_map, type_cell, type_iter, type_coroutine, type_unlisted, type_past)

pub returns-in-1 : goal.returns-in-1
returns-in-1 c = search (rules, type_func, type_struct, type_array, type_map, type_cell, type_iter, type_coroutine, type_unlisted, type_past)

pub returns-in-2 : goal.returns-in-2
returns-in-2 c = search (rules, type_func, type_struct, type_array, type_map, type_cell, type_iter, type_coroutine, type_unlisted, type_past)

pub returns-in-3 : goal.returns-in-3
returns-in-3 c = search (rules, type_func, type_struct, type_array, type_map, type_cell, type_iter, type_coroutine, type_unlisted, type_past)

pub returns-in-4 : goal.returns-in-4
returns-in-4 c = search (rules, type_func, type_struct, type_array, type_map, type_cell, type_iter, type_coroutine, type_unlisted, type_past)

pub returns-in-5 : goal.returns-in-5
returns-in-5 c = search (rules, type_func, type_struct, type_array, type_map, type_cell, type_iter, type_coroutine, type_unlisted, type_past)

pub returns-in-6 : goal.returns-in-6
returns-in-6 c = search (rules, type_func, type_struct, type_array, type_map, type_cell, type_iter, type_coroutine, type_unlisted, type_past)

pub returns-in_default : goal.returns-in_default
returns-in_default c = search (rules, type_func, type_struct, type_array, type_map, type_cell, type_iter, type_coroutine, type_unlisted, type_past)
