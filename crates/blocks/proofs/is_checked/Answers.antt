use borrow.Author.Rules.{rules}
use Rattle.blocks.proofs.Reading.{checked_there, checked_past}
use Rattle.blocks.proofs.is_checked.Goals as goal

pub returns-then-bytes-k : goal.returns-then-bytes-k
returns-then-bytes-k c = search (rules, checked_there, checked_past)

pub returns : goal.returns
returns c = search (rules, checked_there, checked_past)
