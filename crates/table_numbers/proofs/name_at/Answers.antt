use borrow.Author.Rules.{rules}
use native.Mathlib.Omega.{arith}
use Rattle.table_numbers.proofs.NumberSteps.{number_in, name_room, name_canon}
use Rattle.table_numbers.proofs.name_at.Goals as goal

pub overflow_add-names_at : goal.overflow_add-names_at
overflow_add-names_at c = omega (arith, number_in _ _ _ c.requires.whole _ c.requires.i_in_bounds)

pub overflow_add-names_at-2 : goal.overflow_add-names_at-2
overflow_add-names_at-2 c = omega (arith, number_in _ _ _ c.requires.whole _ c.requires.i_in_bounds)

pub canon_string-name-requires : goal.canon_string-name-requires
canon_string-name-requires c = search (rules, name_room)

pub returns : goal.returns
returns c = search (rules, name_canon)
