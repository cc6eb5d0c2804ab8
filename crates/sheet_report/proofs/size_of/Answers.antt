use borrow.Author.Rules.{rules}
use Rattle.sheet_report.proofs.LineSteps.{sized}
use Rattle.sheet_report.proofs.size_of.Goals as goal

pub returns-clause-value : goal.returns-clause-value
returns-clause-value c = search (rules, sized)
