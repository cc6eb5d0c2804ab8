use Prim.Native.Nat.{◌-◌}
use Rattle.table_catches.proofs.PaintSteps.{FindAt}
use Rattle.table_catches.proofs.find.Given as goal

abbrev pub invariant-loop-q : goal.invariant-loop-q
invariant-loop-q l = FindAt l.initial.work l.work l.m l.len l.p l.q

abbrev pub decreases-loop-q : goal.decreases-loop-q
decreases-loop-q l = l.len - l.q
