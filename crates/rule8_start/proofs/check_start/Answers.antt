use borrow.Author.Rules.{rules}
use Rattle.rule8_start.proofs.StartSteps.{no_start, start_judged}
use Rattle.rule8_start.proofs.check_start.Goals as goal

pub returns-then-start-eq0 : goal.returns-then-start-eq0
returns-then-start-eq0 c = search (rules, no_start, start_judged)

pub returns : goal.returns
returns c = search (rules, no_start, start_judged)
