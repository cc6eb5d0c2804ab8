use borrow.Author.Rules.{rules}
use Rattle.host.specs.EntryWalk.{walking}
use Rattle.host.proofs.entries.kind_of.Goals as goal

pub end_of-requires : goal.end_of-requires
end_of-requires c = search (rules, walking)

pub end_of-requires-2 : goal.end_of-requires-2
end_of-requires-2 c = search (rules, walking)

pub returns : goal.returns
returns c = search (rules, walking)
