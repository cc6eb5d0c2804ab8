use Rattle.blocks.proofs.Reading.{Weighs}
use Rattle.blocks.proofs.weigh.Given as goal

abbrev pub invariant-loop-i : goal.invariant-loop-i
invariant-loop-i l = Weighs l.bytes l.n l.sum l.weight l.i
