use native.Mathlib.Omega.{arith}
use mathlib.Core.Path.{ap, ◌∙◌}
use Rattle.open_sheet.specs.Ready.{pos_at}
use Rattle.table_names.proofs.GatherSteps.{canon_room, put_pair}
use Rattle.table_names.proofs.put_name.Goals as goal

pub canon_string-name-requires : goal.canon_string-name-requires
canon_string-name-requires c = canon_room _ _ _ c.requires.ready _ (omega (arith, c.requires.p_in_bounds, c.word.ensures))

pub returns : goal.returns
returns c = put_pair _ _ _ c.requires.ready _ c.requires.p_in_bounds _ _ _ _ _ (c.canon_string-name.ensures ∙ ap (pos_at _ _) c.word.ensures) c.requires.to_in_bounds c.put.ensures c.put-2.ensures
