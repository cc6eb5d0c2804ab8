use borrow.Author.Rules.{rules}
use Rattle.error.specs.VerdictLaws.{ranges}
use Rattle.error.proofs.in_range.Goals as goal

pub returns-then-n-i : goal.returns-then-n-i
returns-then-n-i c = search (rules, ranges)

pub returns : goal.returns
returns c = search (rules, ranges)
