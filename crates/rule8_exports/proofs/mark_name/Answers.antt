use borrow.Author.Rules.{rules}
use native.Mathlib.Omega.{arith}
use Rattle.open_sheet.specs.ReadyLaws.{above_refl}
use Rattle.rule8_exports.proofs.NameSteps.{canon_room, mark_inside, marking}
use Rattle.rule8_exports.proofs.mark_name.Goals as goal

pub at-requires : goal.at-requires
at-requires c = search (rules, canon_room, mark_inside, marking, above_refl)

pub returns-then-at-ne0-clause-value : goal.returns-then-at-ne0-clause-value
returns-then-at-ne0-clause-value c = search (rules, marking)

pub returns-then-at-ne0-clause-above : goal.returns-then-at-ne0-clause-above
returns-then-at-ne0-clause-above c = search (rules, above_refl)

pub put-requires : goal.put-requires
put-requires c =
    (mark_inside _ _ _ _ _ c.requires c.canon_string.ensures, omega arith)

pub returns-clause-value : goal.returns-clause-value
returns-clause-value c = search (rules, canon_room, mark_inside, marking, above_refl)

pub returns-clause-marked_then : goal.returns-clause-marked_then
returns-clause-marked_then c = search (rules, canon_room, mark_inside, marking, above_refl)

pub returns-clause-above : goal.returns-clause-above
returns-clause-above c = search (rules, marking)
