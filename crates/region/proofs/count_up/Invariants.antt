use mathlib.Core.Path.{◌≡◌}
use Prim.Native.Nat.{ℕ, ◌+◌, ◌<◌}
use Rattle.region.specs.Region.{Off, Frame, word_at}
use Rattle.region.proofs.count_up.Given as goal

abbrev pub invariant-loop-i : goal.invariant-loop-i
invariant-loop-i l = record {
  frame : Frame (Off l.a (l.a + l.n)) l.initial.work l.work;
  by_index : ((p : ℕ) → p < l.i → word_at l.work l.a p ≡ p);
}
