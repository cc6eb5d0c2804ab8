use borrow.Author.Rules.{rules}
use Rattle.rule_list_marks.proofs.MarkSteps.{marking_start, marking_end, marking_name, marking_next}
use Rattle.rule_list_marks.proofs.put_marks.Goals as goal

pub put_mark-new-requires-clause-name_value : goal.put_mark-new-requires-clause-name_value
put_mark-new-requires-clause-name_value c = search (rules, marking_start, marking_name, marking_next)

pub loop-preserved : goal.loop-preserved
loop-preserved c = search (rules, marking_start, marking_name, marking_next)

pub returns : goal.returns
returns c =
    let done = marking_end _ _ _ _ _ _ _ _ _ _ _ _ _ c.loop.invariant c.loop-test.false in
    record { value = done.0; work_after = done.1 }
