use borrow.Author.Rules.{rules}
use native.Mathlib.Omega.{arith}
use Rattle.open_sheet.specs.ReadyLaws.{above_refl}
use Rattle.rule8_exports.proofs.ExportSteps.{export_place, export_in}
use Rattle.rule8_exports.proofs.NameSteps.{name_inside, name_outside}
use Rattle.rule8_exports.proofs.check_name.Goals as goal

pub export_at-requires : goal.export_at-requires
export_at-requires c = search (rules, export_place)

pub overflow_add-export_at : goal.overflow_add-export_at
overflow_add-export_at c =
    omega (arith, export_in _ _ c.requires.ready.opens _ c.requires.i_in_bounds c.export_at.ensures)

pub returns-then-o-name-clause-value : goal.returns-then-o-name-clause-value
returns-then-o-name-clause-value c = search (rules, name_outside)

pub returns-then-o-name-clause-above : goal.returns-then-o-name-clause-above
returns-then-o-name-clause-above c = search (rules, above_refl)

pub mark_name-requires : goal.mark_name-requires
mark_name-requires c = search (rules, name_inside)
