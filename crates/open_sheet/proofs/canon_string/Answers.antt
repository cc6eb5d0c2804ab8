use borrow.Author.Rules.{rules}
use Rattle.open_sheet.specs.ReadyLaws.{pos_at_lem}
use Rattle.open_sheet.proofs.canon_string.Goals as goal

pub returns : goal.returns
returns c = search (rules, pos_at_lem)
