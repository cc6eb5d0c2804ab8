use mathlib.Core.Path.{refl}
use Rattle.rule_list_marks.proofs.ReadyMarks.{valid_not, valid_rest, names_held}
use Rattle.rule_list_marks.proofs.are_valid.Goals as goal

pub returns-then-not-members_hold : goal.returns-then-not-members_hold
returns-then-not-members_hold c = record { value = valid_not _ _ _ c.if-not-members_hold.true c.members_hold.ensures; work_unchanged = refl }

pub are_distinct-requires : goal.are_distinct-requires
are_distinct-requires c = record { ready = c.requires.ready; count_bound = c.requires.count_bound; from_value = names_held _ _ _ c.if-not-members_hold.false c.members_hold.ensures }

pub returns : goal.returns
returns c = record { value = valid_rest _ _ _ c.if-not-members_hold.false c.members_hold.ensures c.are_distinct.ensures.value; work_unchanged = c.are_distinct.ensures.work_unchanged }
