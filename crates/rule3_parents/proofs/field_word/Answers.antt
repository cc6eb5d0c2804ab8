use borrow.Author.Rules.{rules}
use native.Mathlib.Omega.{arith}
use Rattle.rule3_parents.proofs.TypeWords.{field_type, field_long, field_read, field_small}
use Rattle.rule3_parents.proofs.field_word.Goals as goal

pub overflow_add-i : goal.overflow_add-i
overflow_add-i c = omega (arith, field_small _ _ _ c.requires.ready _ _ c.requires.i_in_bounds, c.well_formed.1.0)

pub type_word-requires : goal.type_word-requires
type_word-requires c = search (rules, field_type, field_long)

pub returns : goal.returns
returns c = search (rules, field_read)
