use Rattle.blocks.specs.Frame.{first_words}
use Rattle.table_values.proofs.PlaceSteps.{Places}
use Rattle.table_values.proofs.write_references.Given as goal

abbrev pub invariant-loop-i : goal.invariant-loop-i
invariant-loop-i l = Places l.most (first_words l.sheet l.n_words) l.first l.stride l.n l.initial.table l.at l.i l.table l.p
