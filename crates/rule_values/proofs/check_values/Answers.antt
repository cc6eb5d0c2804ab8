use borrow.Author.Rules.{rules}
use native.Mathlib.Omega.{arith}
use Rattle.reader.specs.ValueLaws.{list_within}
use Rattle.sheet.specs.Module.{dyn}
use Rattle.sheet.specs.Decode.{value_type}
use Rattle.law_judging.proofs.EachLaws.{list_member, list_room, list_judged, read_same}
use Rattle.sheet.proofs.SizeLaws.{value_takes}
use Rattle.rule_values.proofs.check_values.Goals as goal

pub overflow_add-at : goal.overflow_add-at
overflow_add-at c = omega (arith, list_within)

pub check_each-requires : goal.check_each-requires
check_each-requires c κs within =
    let room = list_room _ 1 value_takes _ _ _ c.requires.whole c.word.ensures in
    let whole = list_member _ 1 value_takes _ _ _ c.requires.whole c.word.ensures in
    (search rules, (omega (arith, room), ((λ i h. search (rules, whole)), λ i r h k. search rules)))

pub returns : goal.returns
returns c = list_judged _ 1 value_takes _ _ _ c.requires.whole c.word.ensures _ _ (read_same value_type _ _ dyn) c.check_each.ensures
