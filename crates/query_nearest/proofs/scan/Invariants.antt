use Rattle.query_nearest.specs.Scan.{Scanned}
use Rattle.query_nearest.proofs.scan.Given as goal

abbrev pub invariant-loop-a : goal.invariant-loop-a
invariant-loop-a l = Scanned l.table l.low l.high l.a l.c
