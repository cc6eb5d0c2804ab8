use borrow.Author.Rules.{rules}
use Rattle.rule5_imports.proofs.RuleSteps.{names_first, names_second}
use Rattle.rule5_imports.proofs.check_names.Goals as goal

pub returns-then-a-b : goal.returns-then-a-b
returns-then-a-b c = search (rules, names_first, names_second)

pub returns : goal.returns
returns c = search (rules, names_first, names_second)
