use borrow.Author.Rules.{rules}
use Rattle.rule5_imports.proofs.RuleSteps.{takes_result, takes_other}
use Rattle.rule5_imports.proofs.takes_dyn.Goals as goal

pub returns-then-is_one_dyn : goal.returns-then-is_one_dyn
returns-then-is_one_dyn c = search (rules, takes_result)

pub returns-else-is_one_dyn : goal.returns-else-is_one_dyn
returns-else-is_one_dyn c = search (rules, takes_other)
