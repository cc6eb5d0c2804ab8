use borrow.Author.Rules.{rules}
use Rattle.rules.proofs.OrderSteps.{tally_order}
use Rattle.rules.proofs.tally.Goals as goal

pub index_captures-requires : goal.index_captures-requires
index_captures-requires c = search (rules, tally_order)

pub index_fewest-requires : goal.index_fewest-requires
index_fewest-requires c = search (rules, tally_order)

pub shape_of-work : goal.shape_of-work
shape_of-work c = search (rules, tally_order)

pub returns : goal.returns
returns c = search (rules, tally_order)
