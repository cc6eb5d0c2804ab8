-- A report that is added takes one of the room.
use Rattle.sheet_report.specs.SumLaws.{spares}
use Rattle.report.proofs.report_bytes.Goals as goal

pub returns-clause-spares_one : goal.returns-clause-spares_one
returns-clause-spares_one g c = spares c.add_report.ensures
