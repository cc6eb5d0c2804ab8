use borrow.Author.Rules.{rules}
use native.Mathlib.Omega.{arith}
use Rattle.reader.specs.ValueLaws.{list_within}
use Rattle.reader.proofs.SizeLaws.{word_takes}
use Rattle.law_judging.proofs.EachLaws.{list_room, list_judged}
use Rattle.rule_values.proofs.NumberRules.{strings_same}
use Rattle.rule_values.proofs.numbers.check_strings.Goals as goal

pub overflow_add-at : goal.overflow_add-at
overflow_add-at c = omega (arith, list_within)

pub check_each-requires : goal.check_each-requires
check_each-requires c κs within =
    let room = list_room _ 1 word_takes _ _ _ c.requires.whole c.word.ensures in
    (search rules, (omega (arith, room), (search rules, search rules)))

pub returns : goal.returns
returns c = list_judged _ 1 word_takes _ _ _ c.requires.whole c.word.ensures _ _ (strings_same _ _ _ c.requires.opens) c.check_each.ensures
