use borrow.Author.Rules.{rules}
use native.Mathlib.Omega.{arith}
use Rattle.table_numbers.proofs.NumberSteps.{number_in, ref_room, ref_canon}
use Rattle.table_numbers.proofs.type_ref_at.Goals as goal

pub overflow_add-refs_at : goal.overflow_add-refs_at
overflow_add-refs_at c = omega (arith, number_in _ _ _ c.requires.whole _ c.requires.i_in_bounds)

pub overflow_add-refs_at-2 : goal.overflow_add-refs_at-2
overflow_add-refs_at-2 c = omega (arith, number_in _ _ _ c.requires.whole _ c.requires.i_in_bounds)

pub canon_type-canon-requires : goal.canon_type-canon-requires
canon_type-canon-requires c = search (rules, ref_room)

pub returns : goal.returns
returns c = search (rules, ref_canon)
