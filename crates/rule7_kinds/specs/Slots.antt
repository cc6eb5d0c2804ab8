-- A row's slots by place.
use Rattle.std.specs.Prelude.{ℕ, List, [], ◌∷◌}
use Rattle.code.specs.declared.FieldKind.{FieldKind}
use Rattle.code.specs.Opcodes.{Row}
use Rattle.rule7_kinds.specs.declared.Slot.{Slot}
use Rattle.rule7_kinds.specs.declared.Slot.TheVariants.{A, B, W, C}

-- the place of a slot in a row of four
unfoldable pub place_of : Slot → ℕ
place_of A = 0
place_of B = 1
place_of W = 2
place_of C = 3

unfoldable pub kind_in : Row → Slot → FieldKind
kind_in r A = r.A
kind_in r B = r.B
kind_in r W = r.W
kind_in r C = r.C

-- a row's four slots
unfoldable pub slots_of : Row → List FieldKind
slots_of r = r.A ∷ r.B ∷ r.W ∷ r.C ∷ []
