use borrow.Author.Rules.{rules}
use Rattle.sheet.proofs.EditionLaws.{most_first, most_second}
use Rattle.sheet.proofs.most_on_chain.Goals as goal

pub returns-then-edition-eq2 : goal.returns-then-edition-eq2
returns-then-edition-eq2 c = search (rules, most_second)

pub returns-else-edition-eq2 : goal.returns-else-edition-eq2
returns-else-edition-eq2 c = search (rules, most_first)
