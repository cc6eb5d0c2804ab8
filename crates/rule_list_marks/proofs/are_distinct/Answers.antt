use Rattle.rule_list_marks.proofs.ReadyMarks.{marks_room, room_kept, distinct_found, marks_kept}
use Rattle.rule_list_marks.proofs.are_distinct.Goals as goal

pub put_marks-new-requires : goal.put_marks-new-requires
put_marks-new-requires c = record { count_bound = c.requires.count_bound; strings_in_bounds = marks_room _ _ _ c.requires.ready; from_value = c.requires.from_value }

pub put_marks-requires : goal.put_marks-requires
put_marks-requires c = record { count_bound = c.requires.count_bound; strings_in_bounds = room_kept _ _ _ c.requires.ready _ _ c.requires.from_value c.put_marks-new.ensures.work_after; from_value = c.requires.from_value }

pub returns : goal.returns
returns c = record { value = distinct_found _ _ _ c.requires.ready _ _ c.requires.from_value c.put_marks-new.ensures.value; work_unchanged = marks_kept _ _ _ c.requires.ready _ _ c.requires.from_value c.put_marks-new.ensures.work_after c.put_marks.ensures.work_after }
