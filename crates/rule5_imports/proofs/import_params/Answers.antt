use borrow.Author.Rules.{rules}
use native.Mathlib.Omega.{arith}
use Rattle.open_sheet.specs.ReadyLaws.{import_room}
use Rattle.open_sheet.specs.MemberLaws.{import_within}
use Rattle.rule5_imports.proofs.ImportWords.{import_list, import_listed}
use Rattle.rule5_imports.proofs.import_params.Goals as goal

pub import_at-requires : goal.import_at-requires
import_at-requires c = search (rules, import_room, import_list, import_listed)

pub overflow_add-result : goal.overflow_add-result
overflow_add-result c = omega (arith, import_within _ _ _ c.requires.ready _ c.requires.i_lt_imports c.import_at.ensures)

pub returns : goal.returns
returns c = search (rules, import_list, import_listed)
