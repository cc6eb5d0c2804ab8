use borrow.Author.Rules.{rules}
use Rattle.reader.proofs.TextReading.{ending}
use Rattle.reader.proofs.ends_text.Goals as goal

pub loop-preserved : goal.loop-preserved
loop-preserved c = search (rules, ending)

pub returns-then-v-eq0 : goal.returns-then-v-eq0
returns-then-v-eq0 c = search (rules, ending)

pub returns-else-v-eq0 : goal.returns-else-v-eq0
returns-else-v-eq0 c = search (rules, ending)
