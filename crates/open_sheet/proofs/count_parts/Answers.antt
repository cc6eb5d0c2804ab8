use borrow.Author.Rules.{rules}
use Rattle.open_sheet.proofs.Counting.{counted}
use Rattle.open_sheet.proofs.count_parts.Goals as goal

pub returns : goal.returns
returns c = search (rules, counted)
