use Rattle.open_sheet.specs.Ready.{sheet_words}
use Rattle.rule_frames.specs.Frames.{func_of}
use Rattle.rule7_parts.proofs.TableSteps.{target_faults}
use Rattle.rule7_parts.proofs.check_table.Given as goal

abbrev pub ghost-check_each : goal.ghost-check_each
ghost-check_each a = target_faults a.check.0.now (func_of (sheet_words a.check.0.now a.check.1.now) a.check.2.now)
