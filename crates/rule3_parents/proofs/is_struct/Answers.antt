use borrow.Author.Rules.{rules}
use Rattle.rule3_parents.proofs.TypeWords.{kind_first, kind_test, kind_none}
use Rattle.rule3_parents.proofs.is_struct.Goals as goal

pub type_word-requires : goal.type_word-requires
type_word-requires c = search (rules, kind_first)

pub returns-then-t-o : goal.returns-then-t-o
returns-then-t-o c = search (rules, kind_test)

pub returns-else-t-o : goal.returns-else-t-o
returns-else-t-o c = search (rules, kind_none)
