use borrow.Author.Rules.{rules}
use Rattle.rule5_imports.proofs.RuleSteps.{tail_broken, tail_params}
use Rattle.rule5_imports.proofs.check_tail.Goals as goal

pub returns-then-not-scheduler_takes-clause-value : goal.returns-then-not-scheduler_takes-clause-value
returns-then-not-scheduler_takes-clause-value c = search (rules, tail_broken)

pub returns-clause-value : goal.returns-clause-value
returns-clause-value c = search (rules, tail_params)
