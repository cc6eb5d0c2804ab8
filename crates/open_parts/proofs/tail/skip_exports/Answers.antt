use Rattle.std.proofs.Common.{◌∙◌}
use Rattle.reader.proofs.ListLaws.{list_passed}
use Rattle.open_parts.proofs.tail.skip_exports.Goals as goal

pub returns : goal.returns
returns c = c.skip_part.ensures ∙ list_passed _ _ _
