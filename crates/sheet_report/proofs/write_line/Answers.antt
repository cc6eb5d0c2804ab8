use borrow.Author.Rules.{rules}
use Rattle.sheet_report.proofs.LineSteps.{line_written, next_room}
use Rattle.sheet_report.proofs.write_line.Goals as goal

pub push-requires : goal.push-requires
push-requires c =
    next_room _ _ _ _ _ c.requires c.push-next.ensures.table_after c.push-next.ensures.value

pub returns : goal.returns
returns c =
    record { lines_after = line_written _ _ _ _ _ _ _ c.requires c.push-next.ensures.table_after c.push-next.ensures.value c.push.ensures.table_after; value = search rules }
