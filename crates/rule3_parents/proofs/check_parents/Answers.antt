use borrow.Author.Rules.{rules}
use native.Mathlib.Omega.{arith}
use Rattle.open_sheet.specs.ReadyLaws.{ready_kept}
use Rattle.rule3_parents.proofs.LaidSteps.{free_room, laid_lent}
use Rattle.rule3_parents.proofs.ScanSteps.{parents_judged}
use Rattle.rule3_parents.proofs.check_parents.Goals as goal

pub slice_bounds-scan_parents-end : goal.slice_bounds-scan_parents-end
slice_bounds-scan_parents-end c =
    omega (arith, free_room _ _ _ (ready_kept _ _ _ c.requires.ready _ c.lay_parents.ensures.kept))

pub scan_parents-requires : goal.scan_parents-requires
scan_parents-requires c = record { ready = search (rules, ready_kept); parents_value = search (rules, laid_lent); most_bound = search rules }

pub returns : goal.returns
returns c = record { value = search (rules, parents_judged); kept = search rules }
