use native.Mathlib.Omega.{arith}
use Rattle.rule_list_marks.proofs.MarkSteps.{number_below, mark_none, mark_put}
use Rattle.rule_list_marks.proofs.put_mark.Goals as goal

pub bounds-work-i : goal.bounds-work-i
bounds-work-i c = omega (arith, number_below c.in-Some.s c.in-Some.is c.requires.name_value)

pub bounds-work-i-in-Some : goal.bounds-work-i-in-Some
bounds-work-i-in-Some c = omega (arith, number_below c.in-Some.s c.in-Some.is c.requires.name_value)

pub returns-in-None : goal.returns-in-None
returns-in-None c = record { value = (mark_none _ _ _ c.in-None.is).0; work_after = (mark_none _ _ _ c.in-None.is).1 }

pub returns-in-Some : goal.returns-in-Some
returns-in-Some c = record { value = (mark_put _ _ _ _ c.in-Some.is).0; work_after = (mark_put _ _ _ _ c.in-Some.is).1 }
