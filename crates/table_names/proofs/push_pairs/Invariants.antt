use Rattle.table_names.proofs.WriteSteps.{Pushes}
use Rattle.table_names.proofs.push_pairs.Given as goal

abbrev pub invariant-loop-i : goal.invariant-loop-i
invariant-loop-i l = Pushes l.work l.initial.table l.table l.a l.n l.at l.i l.p
