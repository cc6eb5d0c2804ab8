use borrow.Author.Rules.{rules}
use Rattle.open_sheet.specs.ReadyLaws.{above_refl}
use Rattle.rule8_exports.proofs.LoopSteps.{index_stop, name_last, name_unread}
use Rattle.rule8_exports.proofs.check_export.Goals as goal

pub returns-in_err-check_index-clause-value : goal.returns-in_err-check_index-clause-value
returns-in_err-check_index-clause-value c =
    let s = index_stop _ c.args.i _ c.check_index.ensures _ (c.in_err-check_index.was {u = tt}) in
    search (rules, s)

pub returns-in_err-check_index-clause-above : goal.returns-in_err-check_index-clause-above
returns-in_err-check_index-clause-above c = search (rules, above_refl)

pub returns-then-not-reads_export_names-clause-value : goal.returns-then-not-reads_export_names-clause-value
returns-then-not-reads_export_names-clause-value c = search (rules, name_unread, c.in_ok-check_index.was)

pub returns-then-not-reads_export_names-clause-above : goal.returns-then-not-reads_export_names-clause-above
returns-then-not-reads_export_names-clause-above c = search (rules, above_refl)

pub returns-clause-value : goal.returns-clause-value
returns-clause-value c = search (rules, name_last, c.in_ok-check_index.was)
