use borrow.Author.Rules.{rules}
use native.Mathlib.Omega.{arith}
use Rattle.rule2_structs.proofs.StructRules.{fields_room, names_judged}
use Rattle.rule2_structs.proofs.check_names.Goals as goal

pub check_each-requires : goal.check_each-requires
check_each-requires c κs within =
    let room = fields_room _ _ _ _ c.requires.whole in
    (search rules, (omega (arith, room), (search rules, search rules)))

pub returns : goal.returns
returns c = names_judged _ _ _ _ c.requires.whole _ c.requires.opens c.check_each.ensures
