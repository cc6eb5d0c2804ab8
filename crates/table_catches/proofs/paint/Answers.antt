use native.Mathlib.Omega.{arith}
use borrow.Author.Rules.{rules}
use Rattle.table_catches.proofs.PaintSteps.{paint_start, paint_now, paint_step, paint_end}
use Rattle.table_catches.proofs.paint.Goals as goal

pub loop-p-init : goal.loop-p-init
loop-p-init c = search (rules, paint_start)

pub paint_next-p-requires : goal.paint_next-p-requires
paint_next-p-requires c = search (rules, paint_now)

pub loop-p-smaller : goal.loop-p-smaller
loop-p-smaller c = omega (arith, c.paint_next-p.ensures.0)

pub loop-p-preserved : goal.loop-p-preserved
loop-p-preserved c =
    paint_step _ _ _ _ _ _ _ _ _ _ _ _ _ _ c.loop-p.invariant c.paint_next-p.ensures.2 (omega (arith, c.paint_next-p.ensures.0))

pub shape_of-table : goal.shape_of-table
shape_of-table c = c.loop-p.invariant.out.tables.len

pub shape_of-work : goal.shape_of-work
shape_of-work c = c.loop-p.invariant.out.links.len

pub returns : goal.returns
returns c = search (rules, paint_end)
