use borrow.Author.Rules.{rules}
use Rattle.load.proofs.Room.{room_short, room_counted}
use Rattle.load.proofs.has_room.Goals as goal

-- src/lib.rt:10:9
pub returns-then-words-lt64 : goal.returns-then-words-lt64
returns-then-words-lt64 c = search (rules, room_short, room_counted)

-- src/lib.rt:6:1
pub returns : goal.returns
returns c = search (rules, room_short, room_counted)
