-- The table in code holds the slots of the definitions' rows: it is compared once as a whole, and read at any code and slot.
use Prim.Native.Nat.{ℕ, ◌<◌}
use mathlib.Core.Path.{◌≡◌, refl, ap, ◌∙◌}
use mathlib.Core.List.{List, map}
use lib.ListN.{get_or}
use Rattle.lists.specs.ListLaws.{map_at}
use Rattle.code.specs.declared.FieldKind.{FieldKind}
use Rattle.code.specs.declared.FieldKind.TheVariants.{Unused}
use Rattle.code.specs.Opcodes.{Row, step, rows, row}
use Rattle.code.specs.Opcodes as definitions
use Rattle.rule7_kinds.specs.declared.Slot.{Slot}
use Rattle.rule7_kinds.specs.declared.Slot.TheVariants.{A, B, W, C}
use Rattle.rule7_kinds.specs.Slots.{place_of, kind_in, slots_of}

other : Row
other = step Unused Unused Unused Unused definitions.free

-- ── slots ──

abbrev pub fields : List (List FieldKind)
fields = map slots_of rows

slots_at : (r : Row) (slot : Slot) (e : FieldKind) → get_or (slots_of r) (place_of slot) e ≡ kind_in r slot
unfolding place_of kind_in slots_of
slots_at r A e = refl
slots_at r B e = refl
slots_at r W e = refl
slots_at r C e = refl

pub kind_at : (code k : ℕ) (slot : Slot) (d : List FieldKind) (e : FieldKind) → code < 35 → k ≡ place_of slot → get_or (get_or fields code d) k e ≡ kind_in (row code) slot
unfolding row other
kind_at code k slot d e h p =
    ap (λ l. get_or l k e) (map_at slots_of other d rows code h) ∙ ap (λ i. get_or (slots_of (row code)) i e) p ∙ slots_at (row code) slot e

pub row_at : (code : ℕ) (d : List FieldKind) → code < 35 → get_or fields code d ≡ slots_of (row code)
unfolding row other
row_at code d h = map_at slots_of other d rows code h
