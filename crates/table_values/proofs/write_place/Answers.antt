use borrow.Author.Rules.{rules}
use Rattle.table_values.proofs.PlaceSteps.{none_written, none_place, one_room, one_written, one_place}
use Rattle.table_values.proofs.write_place.Goals as goal

pub returns-then-word-lt11 : goal.returns-then-word-lt11
returns-then-word-lt11 c = search (rules, none_written, none_place)

pub push-requires : goal.push-requires
push-requires c = search (rules, one_room)

pub returns : goal.returns
returns c = search (rules, one_written, one_place)
