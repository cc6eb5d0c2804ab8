use borrow.Author.Rules.{rules}
use Rattle.open_sheet.specs.ReadyLaws.{above_then, ready_above}
use Rattle.rule8_exports.proofs.LoopSteps.{exports_judged}
use Rattle.rule8_exports.proofs.check_exports.Goals as goal

pub check_each_export-requires-clause-ready : goal.check_each_export-requires-clause-ready
check_each_export-requires-clause-ready c = search (rules, ready_above)

pub returns-clause-value : goal.returns-clause-value
returns-clause-value c = search (rules, ready_above, exports_judged, above_then)

pub returns-clause-above : goal.returns-clause-above
returns-clause-above c = search (rules, above_then)
