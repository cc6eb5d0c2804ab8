-- Each argument takes one of the room.
use Rattle.std.proofs.Common.{◌≤◌, ◌-◌}
use Rattle.sheet_report.specs.Sums.{SpareBoth}
use Rattle.report.proofs.report_files.Given as goal

abbrev pub invariant-loop-i : goal.invariant-loop-i
invariant-loop-i g l = (1 ≤ l.i) × SpareBoth l.t (18446744073709551616 - l.i)
