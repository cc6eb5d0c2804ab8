use borrow.Author.Rules.{rules}
use borrow.Author.Tests.{not-true, not-false}
use Rattle.blocks.proofs.Framing.{framing}
use Rattle.blocks.proofs.read_frame.Goals as goal

pub returns-then-bytes-ne0 : goal.returns-then-bytes-ne0
returns-then-bytes-ne0 c = search (rules, framing, not-true, not-false)

pub returns-then-k-lt1 : goal.returns-then-k-lt1
returns-then-k-lt1 c = search (rules, framing, not-true, not-false)

pub returns-then-k-gt4096 : goal.returns-then-k-gt4096
returns-then-k-gt4096 c = search (rules, framing, not-true, not-false)

pub returns-then-not-all_checked : goal.returns-then-not-all_checked
returns-then-not-all_checked c = search (rules, framing, not-true, not-false)

pub returns-then-edition-lt1 : goal.returns-then-edition-lt1
returns-then-edition-lt1 c = search (rules, framing, not-true, not-false)

pub returns-then-newest-edition : goal.returns-then-newest-edition
returns-then-newest-edition c = search (rules, framing, not-true, not-false)

pub returns-then-n-k : goal.returns-then-n-k
returns-then-n-k c = search (rules, framing, not-true, not-false)

pub returns-then-k-n : goal.returns-then-k-n
returns-then-k-n c = search (rules, framing, not-true, not-false)

pub returns-then-not-is_zero_from : goal.returns-then-not-is_zero_from
returns-then-not-is_zero_from c = search (rules, framing, not-true, not-false)

pub returns : goal.returns
returns c = search (rules, framing, not-true, not-false)
