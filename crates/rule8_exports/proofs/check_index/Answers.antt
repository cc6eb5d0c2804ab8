use borrow.Author.Rules.{rules}
use native.Mathlib.Omega.{arith}
use Rattle.rule8_exports.proofs.ExportSteps.{export_place, export_in, indexes}
use Rattle.rule8_exports.proofs.check_index.Goals as goal

pub export_at-p-requires : goal.export_at-p-requires
export_at-p-requires c = search (rules, export_place)

pub overflow_add-p : goal.overflow_add-p
overflow_add-p c =
    omega (arith, export_in _ _ c.requires.opens _ c.requires.i_in_bounds c.export_at-p.ensures)

pub returns-in-0 : goal.returns-in-0
returns-in-0 c = search (rules, indexes)

pub returns-in-1 : goal.returns-in-1
returns-in-1 c = search (rules, indexes)

pub returns-in_default : goal.returns-in_default
returns-in_default c = search (rules, indexes)
