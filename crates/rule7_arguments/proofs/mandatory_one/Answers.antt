use borrow.Author.Rules.{rules}
use Rattle.rule7_arguments.proofs.ArgumentSteps.{one_optional, one_mandatory}
use Rattle.rule7_arguments.proofs.mandatory_one.Goals as goal

pub returns-then-flags-eq1 : goal.returns-then-flags-eq1
returns-then-flags-eq1 c = search (rules, one_optional)

pub returns-else-flags-eq1 : goal.returns-else-flags-eq1
returns-else-flags-eq1 c = search (rules, one_mandatory)
