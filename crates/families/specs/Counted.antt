-- The struct types of a sheet in bytes, counted from its declarations.
use Rattle.std.specs.Prelude.{ℕ, List, [], ◌∷◌, Option, None, Some}
use Rattle.sheet.specs.Module.{Module}
use Rattle.sheet.specs.Decode.{decode}
use Rattle.families.specs.Families.{struct_count}

unfoldable pub counted_of : Option Module → Option ℕ
counted_of None = None
counted_of (Some m) = Some (struct_count m.types)

unfoldable pub structs_in : List ℕ → Option ℕ
structs_in sheet = counted_of (decode sheet)

-- kind and number
unfoldable pub count_numbers : Option ℕ → List ℕ
count_numbers (Some n) = 0 ∷ n ∷ []
count_numbers None = 1 ∷ 0 ∷ []
