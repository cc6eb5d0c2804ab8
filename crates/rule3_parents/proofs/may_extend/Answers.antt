use borrow.Author.Rules.{rules}
use Rattle.rule3_parents.proofs.ChainSteps.{extends_fit, extends_none}
use Rattle.rule3_parents.proofs.may_extend.Goals as goal

pub returns-then-is_struct : goal.returns-then-is_struct
returns-then-is_struct c = search (rules, extends_fit)

pub returns-else-is_struct : goal.returns-else-is_struct
returns-else-is_struct c = search (rules, extends_none)
