use Rattle.table_structs.proofs.Joins.{put_one}
use Rattle.table_types.proofs.KindSteps.{one_room, one_put}
use Rattle.table_types.proofs.write_one.Goals as goal

pub canon_at-canon-requires : goal.canon_at-canon-requires
canon_at-canon-requires c =
    record { ready = c.requires.ready; whole = c.requires.sound.whole; at_value = c.requires.sound.holds }

pub push-requires : goal.push-requires
push-requires c =
    one_room _ _ c.args.table.now _ c.requires.q_in_bounds

pub returns : goal.returns
returns c =
    let k = one_put _ _ _ _ c.canon_at-canon.ensures (put_one (c.push.ensures.table_after, c.push.ensures.value)) in
    record { table_after = k.done; value = k.next }
