use borrow.Author.Rules.{rules}
use Rattle.rule8_exports.proofs.LoopSteps.{checking, checked_stop}
use Rattle.rule8_exports.proofs.check_each_export.Goals as goal

pub loop-i-init : goal.loop-i-init
loop-i-init c = search (rules, checking)

pub check_export-requires-clause-i_in_bounds : goal.check_export-requires-clause-i_in_bounds
check_export-requires-clause-i_in_bounds c = search (rules, checking)

pub returns-in_err-check_export-clause-value : goal.returns-in_err-check_export-clause-value
returns-in_err-check_export-clause-value c =
    let s = checked_stop _ _ _ _ _ c.loop-i.invariant c.word-i-end.ensures c.loop-i-test.true _ c.check_export.ensures.value c.check_export.ensures.above _ (c.in_err-check_export.was {u = tt}) in
    search (rules, s)

pub returns-in_err-check_export-clause-above : goal.returns-in_err-check_export-clause-above
returns-in_err-check_export-clause-above c = search (rules, checking)

pub loop-i-preserved : goal.loop-i-preserved
loop-i-preserved c = search (rules, checking)

pub returns-clause-value : goal.returns-clause-value
returns-clause-value c = search (rules, checking)
