use borrow.Author.Rules.{rules}
use native.Mathlib.Omega.{arith}
use Rattle.rule3_parents.proofs.LaidSteps.{laying_start, laying_length, laying_kept, laying_ready, laying_room, laying_next, laying_end}
use Rattle.rule3_parents.proofs.lay_parents.Goals as goal

pub loop-t-init : goal.loop-t-init
loop-t-init c = search (rules, laying_start)

pub parent_of-p-requires : goal.parent_of-p-requires
parent_of-p-requires c = search (rules, laying_ready)

pub overflow_add-work : goal.overflow_add-work
overflow_add-work c = search (rules, laying_room)

pub bounds-work-o : goal.bounds-work-o
bounds-work-o c = search (rules, laying_room)

pub loop-t-preserved : goal.loop-t-preserved
loop-t-preserved c = search (rules, laying_next)

pub shape_of-work : goal.shape_of-work
shape_of-work c = omega (arith, laying_length)

pub returns : goal.returns
returns c = record { work_after = search (rules, laying_end); kept = search (rules, laying_kept) }
