use borrow.Author.Rules.{rules}
use native.Mathlib.Omega.{arith}
use Rattle.open_sheet.specs.ReadyLaws.{type_room}
use Rattle.rule3_parents.proofs.TypeWords.{word_small, word_is}
use Rattle.rule3_parents.proofs.type_word.Goals as goal

pub type_at-requires : goal.type_at-requires
type_at-requires c = search (rules, type_room)

pub overflow_add-type_at : goal.overflow_add-type_at
overflow_add-type_at c = omega (arith, word_small _ _ _ c.requires.ready _ c.requires.t_lt_types _ c.requires.i_in_bounds c.type_at.ensures, c.well_formed.1.0)

pub returns : goal.returns
returns c = search (rules, word_is)
