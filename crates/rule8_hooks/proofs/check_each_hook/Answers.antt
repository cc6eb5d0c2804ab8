use Rattle.std.proofs.Common.{rules, of_calls}
use native.Mathlib.Omega.{arith}
use Rattle.reader.specs.ValueLaws.{list_within}
use Rattle.sheet.specs.Decode.{hook_of}
use Rattle.law_judging.proofs.EachLaws.{list_member, list_room, list_judged, read_same}
use Rattle.rule8_hooks.specs.Bindings.{no_hook}
use Rattle.rule8_hooks.proofs.HookSteps.{hook_takes, hooks_whole}
use Rattle.rule8_hooks.proofs.check_each_hook.Goals as goal

pub overflow_add-from : goal.overflow_add-from
overflow_add-from c = omega (arith, list_within hook_of _ _ _ (hooks_whole _ _ _ c.requires.ready))

pub check_each-requires : goal.check_each-requires
check_each-requires c κs within =
    let listed = hooks_whole _ _ _ c.requires.ready in
    let room = list_room _ 3 hook_takes _ _ _ listed c.word.ensures in
    let whole = list_member _ 3 hook_takes _ _ _ listed c.word.ensures in
    (search (of_calls, within.0, within.1.0, within.1.1.0) depth 12 fits 20000, (omega (arith, room), ((λ i h. search (rules, whole)), λ i r h k. search rules)))

pub returns : goal.returns
returns c =
    let listed = hooks_whole _ _ _ c.requires.ready in
    list_judged _ 3 hook_takes _ _ _ listed c.word.ensures _ _ (read_same hook_of _ _ no_hook) c.check_each.ensures
