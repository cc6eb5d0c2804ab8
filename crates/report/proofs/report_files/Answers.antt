-- The room that is left after one argument more.
use Rattle.std.proofs.Common.{arith}
use Rattle.sheet_report.specs.SumLaws.{spare_fewer, spare_next}
use Rattle.report.proofs.report_files.Goals as goal

pub loop-i-preserved : goal.loop-i-preserved
loop-i-preserved g c =
    let room = c.loop-i.invariant in (
      omega arith,
      spare_next _ _ _ c.in_ok-t-in-Some.ensures (spare_fewer _ _ _ (omega (arith, c.loop-i-test.true, room.0)) room.1),
    )
