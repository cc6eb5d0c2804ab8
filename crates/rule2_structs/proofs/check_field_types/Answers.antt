use borrow.Author.Rules.{rules}
use native.Mathlib.Omega.{arith}
use Rattle.reader.specs.ValueLaws.{list_within}
use Rattle.law_judging.proofs.EachLaws.{list_member, list_room, list_judged}
use Rattle.rule_values.proofs.Sizes.{field_takes}
use Rattle.rule2_structs.proofs.StructRules.{field_type_whole, types_same}
use Rattle.rule2_structs.proofs.check_field_types.Goals as goal

pub overflow_add-at : goal.overflow_add-at
overflow_add-at c = omega (arith, list_within)

pub check_each-requires : goal.check_each-requires
check_each-requires c κs within =
    let room = list_room _ 2 field_takes _ _ _ c.requires.whole c.word.ensures in
    let whole = list_member _ 2 field_takes _ _ _ c.requires.whole c.word.ensures in (
      search rules,
      (
        omega (arith, room),
        ((λ i h. ((λ a b d e f g j. omega (arith, room)), search (rules, field_type_whole, whole))), λ i r h k. search rules),
      ),
    )

pub returns : goal.returns
returns c = list_judged _ 2 field_takes _ _ _ c.requires.whole c.word.ensures _ _ (types_same _ _ _ c.requires.opens) c.check_each.ensures
