use borrow.Author.Rules.{rules}
use Rattle.sheet_report.proofs.LineSteps.{no_numbers}
use Rattle.sheet_report.proofs.no_totals.Goals as goal

pub returns : goal.returns
returns c = search (rules, no_numbers)
