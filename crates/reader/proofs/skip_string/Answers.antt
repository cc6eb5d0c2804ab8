use borrow.Author.Rules.{rules}
use Rattle.reader.proofs.TextReading.{texting, texts_next}
use Rattle.reader.proofs.skip_string.Goals as goal

pub returns-then-n-at : goal.returns-then-n-at
returns-then-n-at c = search (rules, texting)

pub loop-init : goal.loop-init
loop-init c = search (rules, texting)

pub returns-then-n-p : goal.returns-then-n-p
returns-then-n-p c = search (rules, texting)

pub loop-preserved : goal.loop-preserved
loop-preserved c = search (rules, texting)
