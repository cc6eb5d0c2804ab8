use Prim.Native.Nat.{◌≤◌}
use Rattle.table_spans.specs.Walked.{Blank}
use Rattle.table_spans.proofs.blank_spans.Given as goal

abbrev pub invariant-loop-t : goal.invariant-loop-t
invariant-loop-t l = (l.t ≤ l.n) × Blank l.at l.t l.initial.table l.table
