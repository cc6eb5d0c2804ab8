use Rattle.std.proofs.Common.{◌∙◌}
use Rattle.reader.proofs.ListLaws.{list_passed}
use Rattle.open_funcs.proofs.skip_functions.Goals as goal

pub returns : goal.returns
returns c = c.skip_part.ensures ∙ list_passed _ _ _
