use borrow.Author.Rules.{rules}
use Rattle.reader.proofs.TextReading.{resting}
use Rattle.reader.proofs.skip_rest.Goals as goal

pub returns-then-is_done : goal.returns-then-is_done
returns-then-is_done c = search (rules, resting)

pub returns-else-is_done : goal.returns-else-is_done
returns-else-is_done c = search (rules, resting)

pub returns-then-n-at : goal.returns-then-n-at
returns-then-n-at c = search (rules, resting)

pub returns-then-ends_text : goal.returns-then-ends_text
returns-then-ends_text c = search (rules, resting)

pub returns-else-ends_text : goal.returns-else-ends_text
returns-else-ends_text c = search (rules, resting)
