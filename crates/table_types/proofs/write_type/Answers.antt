use Rattle.table_structs.proofs.Joins.{put, put_one}
use Rattle.open_sheet.specs.ReadyLaws.{type_room}
use Rattle.table_types.proofs.TypeSteps.{type_sound, kind_room, body_room, type_put}
use Rattle.table_types.proofs.write_type.Goals as goal

pub type_at-q-requires : goal.type_at-q-requires
type_at-q-requires c =
    type_room _ _ _ c.requires.ready _ c.requires.t_lt_types

pub push-p-requires : goal.push-p-requires
push-p-requires c =
    kind_room _ _ _ c.requires.ready _ c.requires.t_lt_types c.type_at-q.ensures c.requires.o_value c.word-kind.ensures c.args.table.now _ c.requires.t_in_bounds

pub write_body-requires : goal.write_body-requires
write_body-requires c =
    record { ready = c.requires.ready; sound = type_sound _ _ _ c.requires.ready _ c.requires.t_lt_types c.type_at-q.ensures c.requires.o_value; q_in_bounds = body_room _ _ _ c.requires.ready _ c.requires.t_lt_types c.type_at-q.ensures c.requires.o_value c.word-kind.ensures _ _ c.requires.t_in_bounds _ _ (put_one (c.push-p.ensures.table_after, c.push-p.ensures.value)) }

pub returns : goal.returns
returns c =
    let k = type_put _ _ _ c.requires.ready _ c.requires.t_lt_types c.type_at-q.ensures c.requires.o_value c.word-kind.ensures _ _ c.requires.t_in_bounds _ _ (put_one (c.push-p.ensures.table_after, c.push-p.ensures.value)) _ _ (put (c.write_body.ensures.table_after, c.write_body.ensures.value)) in
    record { table_after = k.done; value = k.next; frame = c.write_body.ensures.frame }
