use native.Mathlib.Omega.{arith}
use Rattle.table_names.proofs.WriteSteps.{counted}
use Rattle.table_names.proofs.write_pairs.Goals as goal

pub returns : goal.returns
returns c = record { table_after = counted _ _ _ _ _ _ _ _ c.requires.n_in_bounds_2 c.push-p.ensures.table_after c.push-p.ensures.value c.push_pairs.ensures.table_after; value = omega (arith, c.push-p.ensures.value, c.push_pairs.ensures.value) }
