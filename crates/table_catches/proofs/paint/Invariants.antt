use Prim.Native.Nat.{◌-◌}
use Rattle.table_catches.proofs.PaintSteps.{PaintAt}
use Rattle.table_catches.proofs.paint.Given as goal

abbrev pub invariant-loop-p : goal.invariant-loop-p
invariant-loop-p l = PaintAt l.initial.table l.table l.initial.work l.work l.t l.m l.len l.k l.start l.p l.stop

abbrev pub decreases-loop-p : goal.decreases-loop-p
decreases-loop-p l = l.stop - l.p
