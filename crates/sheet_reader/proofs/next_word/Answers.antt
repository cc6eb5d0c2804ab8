use borrow.Author.Rules.{rules}
use Rattle.sheet_reader.specs.TakenLaws.{takes_word, takes_none}
use Rattle.sheet_reader.proofs.next_word.Goals as goal

pub returns-then-n-at : goal.returns-then-n-at
returns-then-n-at c = search (rules, takes_none)

pub returns : goal.returns
returns c = search (rules, takes_word)
