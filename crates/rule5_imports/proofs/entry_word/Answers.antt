use borrow.Author.Rules.{rules}
use Rattle.rule5_imports.proofs.LinkSteps.{entry_least}
use Rattle.rule5_imports.proofs.entry_word.Goals as goal

pub returns : goal.returns
returns c = search (rules, entry_least)
