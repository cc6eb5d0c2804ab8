use borrow.Author.Rules.{rules}
use Rattle.rule5_imports.proofs.LinkSteps.{names_missing}
use Rattle.rule5_imports.proofs.missing.Goals as goal

pub returns : goal.returns
returns c = search (rules, names_missing)
