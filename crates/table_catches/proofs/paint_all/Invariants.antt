use Prim.Native.Nat.{◌≤◌}
use Rattle.table_catches.proofs.PaintSteps.{AllAt}
use Rattle.table_catches.proofs.paint_all.Given as goal

abbrev pub invariant-loop-k : goal.invariant-loop-k
invariant-loop-k l = (l.k ≤ l.h) × AllAt l.sheet l.initial.table l.table l.initial.work l.work l.hs l.t l.m l.len l.k
