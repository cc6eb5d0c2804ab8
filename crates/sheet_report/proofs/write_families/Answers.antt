use borrow.Author.Rules.{rules}
use Rattle.sheet_report.proofs.LineSteps.{passing, pass_length, pass_end}
use Rattle.sheet_report.proofs.write_families.Goals as goal

pub loop-t-init : goal.loop-t-init
loop-t-init c = search (rules, passing)

pub write_family-f-requires : goal.write_family-f-requires
write_family-f-requires c = search (rules, passing)

pub loop-t-preserved : goal.loop-t-preserved
loop-t-preserved c = search (rules, passing)

pub shape_of-lines : goal.shape_of-lines
shape_of-lines c = pass_length c.loop-t.invariant

pub returns : goal.returns
returns c = record { lines_written = (pass_end c.loop-t.invariant c.loop-t-test.false).0; sizes_bound = (pass_end c.loop-t.invariant c.loop-t-test.false).1 }
