use borrow.Author.Rules.{rules}
use Rattle.open_sheet.specs.ReadyLaws.{type_room}
use Rattle.rule7_callees.proofs.KindSteps.{kind_read, kind_none}
use Rattle.rule7_callees.proofs.kinds.type_kind.Goals as goal

pub type_at-requires : goal.type_at-requires
type_at-requires c = type_room _ _ _ c.requires _ c.if-t-o.true

pub returns-then-t-o : goal.returns-then-t-o
returns-then-t-o c = search (rules, kind_read)

pub returns : goal.returns
returns c = search (rules, kind_none)
