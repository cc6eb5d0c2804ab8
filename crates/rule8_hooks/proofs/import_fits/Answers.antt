use borrow.Author.Rules.{rules}
use native.Mathlib.Omega.{arith}
use Rattle.open_sheet.specs.ReadyLaws.{import_room}
use Rattle.open_sheet.specs.MemberLaws.{import_within}
use Rattle.rule8_hooks.proofs.BoundSteps.{import_fits_lem}
use Rattle.rule8_hooks.proofs.import_fits.Goals as goal

pub import_at-requires : goal.import_at-requires
import_at-requires c = search (rules, import_room, import_fits_lem)

pub overflow_add-import_at : goal.overflow_add-import_at
overflow_add-import_at c = omega (arith, import_within _ _ _ c.requires.ready _ c.requires.i_lt_imports c.import_at.ensures)

pub returns : goal.returns
returns c = search (rules, import_room, import_fits_lem)
