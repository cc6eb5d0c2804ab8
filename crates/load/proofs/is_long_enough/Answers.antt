use borrow.Author.Rules.{rules}
use Rattle.load.proofs.Room.{both_room, table_short}
use Rattle.load.proofs.is_long_enough.Goals as goal

-- src/lib.rt:20:9
pub returns-then-has_room : goal.returns-then-has_room
returns-then-has_room c = search (rules, both_room, table_short)

-- src/lib.rt:16:1
pub returns : goal.returns
returns c = search (rules, both_room, table_short)
