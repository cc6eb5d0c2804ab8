use borrow.Author.Rules.{rules}
use Rattle.utf8.proofs.Stepping.{word_next, word_ascii}
use Rattle.utf8.proofs.next_word.Goals as goal

pub returns-then-is_done : goal.returns-then-is_done
returns-then-is_done c = search (rules, word_next, word_ascii)

pub returns : goal.returns
returns c = search (rules, word_next, word_ascii)
