use native.Mathlib.Omega.{arith}
use Rattle.table_structs.proofs.Joins.{put}
use Rattle.table_types.proofs.KindSteps.{value_in, key_room, value_room, two_put}
use Rattle.table_types.proofs.write_two.Goals as goal

pub write_one-p-requires : goal.write_one-p-requires
write_one-p-requires c =
    record { ready = c.requires.ready; sound = c.requires.sound; q_in_bounds = key_room _ _ c.args.table.now _ c.requires.q_in_bounds }

pub overflow_add-q : goal.overflow_add-q
overflow_add-q c = omega (arith, value_in _ _ _ c.requires.sound)

pub write_one-requires : goal.write_one-requires
write_one-requires c =
    record { ready = c.requires.ready; sound = c.requires.sound_2; q_in_bounds = value_room _ _ _ _ c.requires.q_in_bounds _ _ (put (c.write_one-p.ensures.table_after, c.write_one-p.ensures.value)) }

pub returns : goal.returns
returns c =
    let k = two_put _ _ _ _ c.requires.q_in_bounds _ _ (put (c.write_one-p.ensures.table_after, c.write_one-p.ensures.value)) _ _ (put (c.write_one.ensures.table_after, c.write_one.ensures.value)) in
    record { table_after = k.done; value = k.next }
