use borrow.Author.Rules.{rules}
use Rattle.utf8.proofs.Stepping.{later_below, later_above, later_in}
use Rattle.utf8.proofs.later.Goals as goal

pub returns-then-b-low : goal.returns-then-b-low
returns-then-b-low c = search (rules, later_below, later_above, later_in)

pub returns-then-high-b : goal.returns-then-high-b
returns-then-high-b c = search (rules, later_below, later_above, later_in)
