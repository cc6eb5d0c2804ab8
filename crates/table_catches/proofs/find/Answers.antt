use native.Mathlib.Omega.{arith}
use borrow.Author.Rules.{rules}
use Rattle.table_catches.proofs.PaintSteps.{find_start, find_bounds, find_reads, find_step, find_end}
use Rattle.table_catches.proofs.find.Goals as goal

pub loop-q-init : goal.loop-q-init
loop-q-init c = search (rules, find_start)

pub overflow_add-m : goal.overflow_add-m
overflow_add-m c =
    omega (arith, find_bounds _ _ _ _ _ _ c.requires c.loop-q.invariant)

pub at-next-requires : goal.at-next-requires
at-next-requires c =
    omega (arith, find_bounds _ _ _ _ _ _ c.requires c.loop-q.invariant)

pub shape_of-work-then-next-q : goal.shape_of-work-then-next-q
shape_of-work-then-next-q c = c.loop-q.invariant.frame.len

pub returns-then-next-q : goal.returns-then-next-q
returns-then-next-q c =
    find_end _ _ _ _ _ _ c.requires c.loop-q.invariant (omega (arith, c.at-next.ensures, c.if-next-q.true))

pub overflow_add-m-in-loop-q : goal.overflow_add-m-in-loop-q
overflow_add-m-in-loop-q c =
    omega (arith, find_bounds _ _ _ _ _ _ c.requires c.loop-q.invariant)

pub at-over-requires : goal.at-over-requires
at-over-requires c =
    omega (arith, find_bounds _ _ _ _ _ _ c.requires c.loop-q.invariant)

pub overflow_add-m-in-loop-q-2 : goal.overflow_add-m-in-loop-q-2
overflow_add-m-in-loop-q-2 c =
    omega (arith, find_bounds _ _ _ _ _ _ c.requires c.loop-q.invariant)

pub put-requires : goal.put-requires
put-requires c =
    omega (arith, find_bounds _ _ _ _ _ _ c.requires c.loop-q.invariant, c.requires.small, find_reads _ _ _ _ _ _ c.requires c.loop-q.invariant c.at-next.result c.at-over.result c.at-next.ensures c.at-over.ensures)

pub loop-q-smaller : goal.loop-q-smaller
loop-q-smaller c =
    omega (arith, find_bounds _ _ _ _ _ _ c.requires c.loop-q.invariant, find_reads _ _ _ _ _ _ c.requires c.loop-q.invariant c.at-next.result c.at-over.result c.at-next.ensures c.at-over.ensures, c.if-next-q.false)

pub loop-q-preserved : goal.loop-q-preserved
loop-q-preserved c = search (rules, find_step)
