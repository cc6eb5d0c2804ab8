use Rattle.blocks.proofs.Framing.{Checks}
use Rattle.blocks.proofs.all_checked.Given as goal

abbrev pub invariant-loop-k : goal.invariant-loop-k
invariant-loop-k l = Checks l.bytes l.k
