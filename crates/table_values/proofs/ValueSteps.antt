-- What is known of each value type of a list.
use Prim.Native.Nat.{ℕ, ◌+◌, ◌*◌, ◌<◌}
use mathlib.Core.Path.{◌≡◌}
use mathlib.Core.List.{List, []}
use Rattle.blocks.specs.Frame.{first_words}
use Rattle.reader.specs.Value.{Whole, value_of}
use Rattle.reader.specs.ValueLaws.{whole_inv}
use Rattle.sheet.specs.Module.{dyn}
use Rattle.sheet.specs.Decode.{value_type}
use Rattle.types.specs.Types.{value_faults}
use Rattle.open_layout.specs.Opened.{module_in}
use Rattle.rule6_registers.specs.ValueWords.{value_within}
use Rattle.table_values.specs.Values.{Values, Present}

-- ── value type i ──

pub present_within : (b : List ℕ) (m first stride n : ℕ) → Present (first_words b m) first stride n → (i : ℕ) → i < n → first + stride * i < m
present_within b m first stride n x i l = whole_inv (value_type (first_words b m) (first + stride * i)) (x.whole i l) λ v q e. value_within b m (first + stride * i) e

pub present_whole : (ws : List ℕ) (first stride n : ℕ) → Present ws first stride n → (i : ℕ) → i < n → Whole (value_type ws (first + stride * i))
present_whole ws first stride n x i l = x.whole i l

module _ (b : List ℕ) (m first stride n : ℕ) (x : Values (first_words b m) first stride n) (i : ℕ) (l : i < n) where
  pub value_in : first + stride * i < m
  value_in = present_within b m first stride n (record { whole = x.whole }) i l

  pub value_whole : Whole (value_type (first_words b m) (first + stride * i))
  value_whole = x.whole i l

  pub value_clear : value_faults (module_in (first_words b m)) (value_of dyn (value_type (first_words b m) (first + stride * i))) ≡ []
  value_clear = x.holds i l
