use borrow.Author.Rules.{rules}
use native.Mathlib.Omega.{arith}
use Rattle.table_catches.proofs.PaintSteps.{one_past, one_here}
use Rattle.table_catches.proofs.paint_next.Goals as goal

pub returns-then-stop-q : goal.returns-then-stop-q
returns-then-stop-q c = (
  omega (arith, c.find-q.ensures.found.from),
  omega (arith, c.find-q.ensures.found.to),
  one_past _ _ _ _ _ _ _ _ _ c.requires.paint_in c.find-q.ensures _ (omega (arith, c.if-stop-q.true)),
)

pub returns : goal.returns
returns c = search (rules, one_here)
