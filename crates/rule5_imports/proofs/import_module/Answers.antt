use borrow.Author.Rules.{rules}
use Rattle.open_sheet.specs.ReadyLaws.{import_room}
use Rattle.rule5_imports.proofs.ImportWords.{import_first}
use Rattle.rule5_imports.proofs.import_module.Goals as goal

pub import_at-requires : goal.import_at-requires
import_at-requires c = search (rules, import_room, import_first)

pub returns : goal.returns
returns c = search (rules, import_room, import_first)
