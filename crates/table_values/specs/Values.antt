-- Value types that stand at even distances: a list of them, or one in each member of a list.
use Rattle.std.specs.Prelude.{ℕ, ◌+◌, ◌*◌, ◌<◌, min, ◌≡◌, List, [], ◌∷◌, map, cond}
use Rattle.lists.specs.Lists.{from}
use Rattle.reader.specs.Value.{Whole, value_of}
use Rattle.sheet.specs.Module.{ValueType, dyn, is_reference}
use Rattle.sheet.specs.Decode.{value_type}
use Rattle.types.specs.Types.{value_faults}
use Rattle.open_layout.specs.Opened.{module_in}

-- the value types that stand at first, first + stride, …, n of them
unfoldable pub values_at : List ℕ → ℕ → ℕ → ℕ → List ValueType
values_at ws first stride n = map (λ i. value_of dyn (value_type ws (first + stride * i))) (from 0 n)

-- each is there, and names a type that is there
pub record Values (ws : List ℕ) (first stride n : ℕ) : Type 0 where
  pub whole : (i : ℕ) → i < n → Whole (value_type ws (first + stride * i))
  pub holds : (i : ℕ) → i < n → value_faults (module_in ws) (value_of dyn (value_type ws (first + stride * i))) ≡ []

-- each is there
pub record Present (ws : List ℕ) (first stride n : ℕ) : Type 0 where
  pub whole : (i : ℕ) → i < n → Whole (value_type ws (first + stride * i))

-- the place i of a reference, none above most; of another value type none
unfoldable pub place_words : ℕ → ℕ → ValueType → List ℕ
place_words most i v = cond (is_reference v) (min most i ∷ []) []
