use mathlib.Core.Path.{refl}
use Rattle.query_nearest.proofs.ScanSteps.{is_asked}
use Rattle.query_nearest.proofs.answer.Goals as goal

pub between-requires : goal.between-requires
between-requires c = is_asked _ _ _ c.requires c.at-start.ensures refl c.if-count-t.false c.if-count-u.false
