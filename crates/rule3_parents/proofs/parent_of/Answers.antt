use borrow.Author.Rules.{rules}
use Rattle.rule3_parents.proofs.TypeWords.{struct_in_lem, struct_long, parent_read, parent_none}
use Rattle.rule3_parents.proofs.parent_of.Goals as goal

pub type_word-requires : goal.type_word-requires
type_word-requires c = search (rules, struct_in_lem, struct_long)

pub returns-then-is_struct : goal.returns-then-is_struct
returns-then-is_struct c = search (rules, parent_read)

pub returns : goal.returns
returns c = search (rules, parent_none)
