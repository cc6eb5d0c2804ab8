use borrow.Author.Rules.{rules}
use Rattle.open_sheet.specs.ReadyLaws.{type_room, type_whole}
use Rattle.rule2_types.proofs.KindRules.{cleared_end, cleared_next, cleared_stop}
use Rattle.rule2_types.proofs.all_types.Goals as goal

pub type_at-requires : goal.type_at-requires
type_at-requires c = search (rules, type_room)

pub check_type-requires-clause-whole : goal.check_type-requires-clause-whole
check_type-requires-clause-whole c = search (rules, type_whole)

pub returns-in_err-check_type : goal.returns-in_err-check_type
returns-in_err-check_type c =
    let s = cleared_stop _ _ _ c.requires _ c.loop-i-test.true c.type_at.ensures c.loop-i.invariant c.check_type.ensures
    (c.in_err-check_type.was {u = tt}) in
    search (rules, s)

pub loop-i-preserved : goal.loop-i-preserved
loop-i-preserved c = search (rules, cleared_next, c.in_ok-check_type.was)

pub returns : goal.returns
returns c = search (rules, cleared_end)
