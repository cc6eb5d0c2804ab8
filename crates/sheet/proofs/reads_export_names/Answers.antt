use borrow.Author.Rules.{rules}
use Rattle.sheet.specs.Editions.{reads_export_names}
use Rattle.sheet.proofs.reads_export_names.Goals as goal

pub returns : goal.returns
unfolding reads_export_names
returns c = search rules
