use borrow.Author.Rules.{rules}
use Rattle.sheet_report.proofs.ReportSteps.{accepted_report, refused_report}
use Rattle.sheet_report.proofs.report_in.Goals as goal

pub returns-in-Ok : goal.returns-in-Ok
returns-in-Ok c =
    record {
      reports = accepted_report _ _ c.args.table.now c.args.work.now c.args.lines.now (search rules) (search rules)
          c.load-answer.ensures.value c.in-Ok.is _ _ _
          c.load-answer.ensures.table_after c.write_families-f.ensures.lines_written c.count_declared.ensures;
      sizes_bound = c.write_families-f.ensures.sizes_bound;
    }

pub returns-in-Err : goal.returns-in-Err
returns-in-Err c =
    record {
      reports = refused_report _ _ c.args.table.now c.args.work.now c.args.lines.now (search rules) (search rules)
          c.load-answer.ensures.value c.in-Err.is;
      sizes_bound = search rules;
    }
