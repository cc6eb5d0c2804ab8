-- The second of two renumbered sheets is what `renumber_sheet` gives of the first.
use Rattle.std.specs.Prelude.{◌≡◌, List, ℕ, Some}
use Rattle.std.proofs.Common.{sym, ap, ◌∙◌}
use Rattle.renumber.specs.Renumber.{sheet_again, renumber_sheet, RenumberedSheet}

pub renumber_sheet_is : {r first second : List ℕ} → RenumberedSheet r first second → renumber_sheet r first ≡ Some second
unfolding renumber_sheet sheet_again
renumber_sheet_is {r} w = ap (sheet_again r) w.intact ∙ ap Some (sym w.written)
