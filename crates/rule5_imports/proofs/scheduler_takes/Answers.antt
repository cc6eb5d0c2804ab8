use borrow.Author.Rules.{rules}
use Rattle.rule5_imports.proofs.RuleSteps.{takes_scheduler, takes_any}
use Rattle.rule5_imports.proofs.scheduler_takes.Goals as goal

pub returns-then-not-scheduler : goal.returns-then-not-scheduler
returns-then-not-scheduler c = search (rules, takes_any)

pub returns-else-not-scheduler : goal.returns-else-not-scheduler
returns-else-not-scheduler c = search (rules, takes_scheduler)
