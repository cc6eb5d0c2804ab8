use Rattle.exact.specs.Exact.{value_of}
use borrow.Author.Rules.{rules}
use Rattle.exact.proofs.add.Goals as goal

pub returns-then-sum-lt1000000000000000000 : goal.returns-then-sum-lt1000000000000000000
unfolding value_of
returns-then-sum-lt1000000000000000000 c = search rules

pub returns : goal.returns
unfolding value_of
returns c = search rules
