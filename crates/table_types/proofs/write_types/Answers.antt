use Rattle.table_structs.proofs.Joins.{put, put_one}
use Rattle.table_types.proofs.TypeSteps.{types_start, types_ready, count_room, types_length, next_room, types_next, types_put}
use Rattle.table_types.proofs.write_types.Goals as goal

pub push-p-requires : goal.push-p-requires
push-p-requires c =
    count_room _ _ _ c.requires.ready c.args.table.now _ c.requires.o_in_bounds

pub loop-i-init : goal.loop-i-init
loop-i-init c = types_start _ _ _ _ _

pub write_type-p-requires : goal.write_type-p-requires
write_type-p-requires c =
    record { ready = types_ready _ _ _ c.requires.ready _ _ _ _ _ _ c.loop-i.invariant; o_value = c.requires.o_value; t_lt_types = c.loop-i-test.true; t_in_bounds = next_room _ _ _ c.requires.ready _ _ c.requires.o_in_bounds _ _ (put_one (c.push-p.ensures.table_after, c.push-p.ensures.value)) _ _ _ _ c.loop-i.invariant c.loop-i-test.true }

pub loop-i-preserved : goal.loop-i-preserved
loop-i-preserved c =
    types_next _ _ _ c.requires.ready _ _ c.requires.o_in_bounds _ _ (put_one (c.push-p.ensures.table_after, c.push-p.ensures.value)) _ _ _ _ c.loop-i.invariant c.loop-i-test.true _ _ _ (put (c.write_type-p.ensures.table_after, c.write_type-p.ensures.value)) c.write_type-p.ensures.frame

pub shape_of-work : goal.shape_of-work
shape_of-work c = c.loop-i.invariant.frame.len

pub shape_of-table : goal.shape_of-table
shape_of-table c =
    types_length _ _ _ c.requires.ready _ _ c.requires.o_in_bounds _ _ (put_one (c.push-p.ensures.table_after, c.push-p.ensures.value)) _ _ _ _ c.loop-i.invariant

pub returns : goal.returns
returns c =
    let k = types_put _ _ _ c.requires.ready _ _ c.requires.o_in_bounds _ _ (put_one (c.push-p.ensures.table_after, c.push-p.ensures.value)) _ _ _ _ c.loop-i.invariant c.loop-i-test.false in
    record { table_after = k.done; value = k.next; frame = c.loop-i.invariant.frame }
