use Rattle.sheet_report.proofs.LineSteps.{Passes}
use Rattle.sheet_report.proofs.write_families.Given as goal

abbrev pub invariant-loop-t : goal.invariant-loop-t
invariant-loop-t l = Passes l.table l.initial.lines l.t l.lines l.f
