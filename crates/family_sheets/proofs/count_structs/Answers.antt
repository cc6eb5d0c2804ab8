use Rattle.std.proofs.Common.{◌∙◌}
use Rattle.family_sheets.proofs.CountSteps.{count_intact, count_broken}
use Rattle.family_sheets.proofs.count_structs.Goals as goal

pub returns-in_err-l : goal.returns-in_err-l
returns-in_err-l c = c.from_residual.ensures ∙ count_broken _ (c.in_err-l.was {u = tt}) c.check_sheet.ensures

pub returns : goal.returns
returns c = count_intact _ _ (c.in_ok-l.was {u = tt}) c.check_sheet.ensures c.count_listed.ensures
