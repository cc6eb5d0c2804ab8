use Rattle.std.proofs.Common.{arith, refl}
use Rattle.std.proofs.lemmas.Slice.{put_mid-paste}
use Rattle.writing.specs.Writing.{written}
use Rattle.writing.proofs.push_all.Goals as goal

pub returns-clause-table_after : goal.returns-clause-table_after
unfolding written
returns-clause-table_after g c = put_mid-paste _ _ _ _ _ _ c.copy_from_slice.ensures.after (omega arith) refl
