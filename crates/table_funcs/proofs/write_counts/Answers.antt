use native.Mathlib.Omega.{arith}
use Rattle.table_funcs.proofs.HeadSteps.{counts_room, sig_room, counts_written, counts_place}
use Rattle.table_funcs.proofs.write_counts.Goals as goal

pub canon_type-sig-requires : goal.canon_type-sig-requires
canon_type-sig-requires c = sig_room _ _ _ c.requires.ready _ c.requires.sound

pub push_all-requires : goal.push_all-requires
push_all-requires c = (omega arith, counts_room _ _ c.requires.sound c.args.table.now _ c.requires.c_in_bounds)

pub returns : goal.returns
returns c = record {
  table_after = counts_written _ _ _ c.requires.ready _ c.requires.sound c.canon_type-sig.ensures c.param_count-params.ensures _ _ c.push_all.ensures.table_after;
  value = counts_place _ _ c.requires.sound _ _ c.push_all.ensures.value;
}
