use borrow.Author.Rules.{rules}
use Rattle.rule8_exports.proofs.LoopSteps.{fill_room, filled_marks, filled_above}
use Rattle.rule8_exports.proofs.clear_marks.Goals as goal

pub fill-requires : goal.fill-requires
fill-requires c = search (rules, fill_room)

pub returns-then-reads_export_names-clause-marked_if : goal.returns-then-reads_export_names-clause-marked_if
returns-then-reads_export_names-clause-marked_if c = search (rules, filled_marks)

pub returns-then-reads_export_names-clause-above : goal.returns-then-reads_export_names-clause-above
returns-then-reads_export_names-clause-above c = search (rules, filled_above)

pub returns-else-reads_export_names-clause-above : goal.returns-else-reads_export_names-clause-above
returns-else-reads_export_names-clause-above c = search (rules, filled_above)
