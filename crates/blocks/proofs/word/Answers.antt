use borrow.Author.Rules.{rules}
use Rattle.blocks.proofs.Reading.{word_inside, word_past}
use Rattle.blocks.proofs.word.Goals as goal

pub returns-then-block-bytes : goal.returns-then-block-bytes
returns-then-block-bytes c = search (rules, word_inside, word_past)

pub returns-else-block-bytes : goal.returns-else-block-bytes
returns-else-block-bytes c = search (rules, word_inside, word_past)
