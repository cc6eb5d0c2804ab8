use borrow.Author.Rules.{rules}
use Rattle.utf8.proofs.Stepping.{asciis}
use Rattle.utf8.proofs.is_ascii.Goals as goal

pub returns-then-w-ge128 : goal.returns-then-w-ge128
returns-then-w-ge128 c = search (rules, asciis)

pub returns-then-w-ge128-2 : goal.returns-then-w-ge128-2
returns-then-w-ge128-2 c = search (rules, asciis)

pub returns-then-w-ge128-3 : goal.returns-then-w-ge128-3
returns-then-w-ge128-3 c = search (rules, asciis)

pub returns : goal.returns
returns c = search (rules, asciis)
