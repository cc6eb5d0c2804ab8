use Rattle.exact.specs.Exact.{value_of}
use borrow.Author.Rules.{rules}
use Rattle.exact.proofs.nothing.Goals as goal

pub returns : goal.returns
unfolding value_of
returns c = search rules
