use borrow.Author.Rules.{rules}
use native.Mathlib.Omega.{arith}
use Rattle.reader.specs.ValueLaws.{list_within}
use Rattle.sheet.specs.Decode.{global_of}
use Rattle.law_judging.proofs.EachLaws.{list_member, list_room, list_judged, read_same}
use Rattle.rule5_globals.specs.Globals.{no_global}
use Rattle.rule5_globals.proofs.GlobalSteps.{global_takes, globals_whole}
use Rattle.rule5_globals.proofs.check_each_global.Goals as goal

pub overflow_add-at : goal.overflow_add-at
overflow_add-at c = omega (arith, list_within global_of _ _ _ (globals_whole _ _ c.requires))

pub check_each-requires : goal.check_each-requires
check_each-requires c κs within =
    let room = list_room _ 2 global_takes _ _ _ (globals_whole _ _ c.requires) c.word.ensures in
    let whole = list_member _ 2 global_takes _ _ _ (globals_whole _ _ c.requires) c.word.ensures in
    (search rules, (omega (arith, room), ((λ i h. search (rules, whole)), λ i r h k. search rules)))

pub returns : goal.returns
returns c = list_judged _ 2 global_takes _ _ _ (globals_whole _ _ c.requires) c.word.ensures _ _
    (read_same global_of _ _ no_global) c.check_each.ensures
