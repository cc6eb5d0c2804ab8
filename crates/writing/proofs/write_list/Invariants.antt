use Rattle.writing.proofs.ListSteps.{Listed}
use Rattle.writing.proofs.write_list.Given as goal

abbrev pub invariant-loop-i : goal.invariant-loop-i
invariant-loop-i g l = Listed g.list l.fn.table l.at l.n l.i l.table l.p
