use Rattle.blocks.proofs.Framing.{Zeros}
use Rattle.blocks.proofs.is_zero_from.Given as goal

abbrev pub invariant-loop-i : goal.invariant-loop-i
invariant-loop-i l = Zeros l.bytes l.n l.i
