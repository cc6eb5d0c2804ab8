-- The struct types among those that a list of types declares.
use Rattle.std.specs.Prelude.{ℕ, ◌+◌, ◌<◌, ◌≡◌, List, Option, None, Some}
use Rattle.reader.specs.Reader.{Got, broken, got, many, list_of}
use Rattle.sheet.specs.Module.{TypeDef}
use Rattle.sheet.specs.Decode.{type_def}
use Rattle.families.specs.Families.{struct_count}

-- n and those that were read
unfoldable pub plus_structs : ℕ → Got (List TypeDef) → Option ℕ
plus_structs n broken = None
plus_structs n (got ts q) = Some (n + struct_count ts)

-- those of the list that stands at a position
unfoldable pub structs_at : List ℕ → ℕ → Option ℕ
structs_at ws at = plus_structs 0 (list_of type_def ws at)

-- n are counted, and so many types stand from p on
pub record Counts (ws : List ℕ) (at left p n : ℕ) : Type 0 where
  pub same : structs_at ws at ≡ plus_structs n (many left type_def ws p)
  pub few : n + left < 4294967296
