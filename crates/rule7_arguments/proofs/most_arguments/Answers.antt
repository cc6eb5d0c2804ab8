use borrow.Author.Rules.{rules}
use Rattle.rule7_arguments.proofs.ArgumentSteps.{import_most}
use Rattle.rule7_arguments.proofs.most_arguments.Goals as goal

pub returns : goal.returns
returns c = search (rules, import_most)
