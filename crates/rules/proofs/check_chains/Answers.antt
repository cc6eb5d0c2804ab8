use borrow.Author.Rules.{rules}
use Rattle.sheet.proofs.EditionLaws.{most_small}
use Rattle.rules.proofs.OrderSteps.{chains_judged}
use Rattle.rules.proofs.check_chains.Goals as goal

pub check_parents-requires : goal.check_parents-requires
check_parents-requires c = search (rules, most_small)

pub returns : goal.returns
returns c = search (rules, chains_judged)
