-- The names of exports, said of what calls of `load` answer.
use Rattle.std.specs.Prelude.{ℕ, ◌≤◌, ◌<◌, ◌≡◌, List, map, length, Some, Err, Ok}
use Rattle.lists.specs.Lists.{concat_map}
use Rattle.error.specs.declared.StrId.{StrId}
use Rattle.error.specs.declared.LoadErrorKind.TheVariants.{ExportNameOutOfRange, DuplicateExport}
use Rattle.error.specs.Answer.{Loaded}
use Rattle.error.specs.Answer.{in_module}
use Rattle.sheet.specs.Module.{Module}
use Rattle.sheet.specs.Decode.{decode}
use Rattle.hooks.specs.Hooks.{export_at, index_faults, name_bytes, exports_faults}
use Rattle.calls.specs.Calls.{Loads}
use Rattle.calls.specs.EditionCalls.{stated_edition}

-- the exports at places i and j have equal name bytes
abbrev pub SameName : Module → ℕ → ℕ → Type 0
SameName m i j = name_bytes m (export_at m i) ≡ name_bytes m (export_at m j)

-- every export's name is a string of the sheet, and picks that export alone
pub record NamesPick (m : Module) : Type 0 where
  pub strings : (i : ℕ) → i < length m.exports → (export_at m i).name < length m.strings
  pub once : (i j : ℕ) → i < length m.exports → j < length m.exports → SameName m i j → i ≡ j

-- n is the name of an export, and no string of the sheet
pub record NoString (m : Module) (n : ℕ) : Type 0 where
  pub place : ℕ
  pub inside : place < length m.exports
  pub named : (export_at m place).name ≡ n
  pub absent : length m.strings ≤ n

-- an export before the one at place i has its name, and those before it have different names
pub record Repeats (m : Module) (i : ℕ) : Type 0 where
  pub inside : i < length m.exports
  pub place : ℕ
  pub earlier : place < i
  pub alike : SameName m place i
  pub different : (j k : ℕ) → j < k → k < i → SameName m j k → ⊥

-- what the names of exports decide of an answer to a sheet that holds m
pub record NamesAnswered (sheet : List ℕ) (m : Module) (r : Loaded) : Type 0 where
  -- in edition 2 acceptance means that every name picks its export
  pub accepted : (l : ℕ) → stated_edition sheet ≡ 2 → r ≡ Ok l → NamesPick m
  -- 27 is of edition 2 and has the number of a name that is no string
  pub out_of_range : (name : StrId) → r ≡ Err (in_module (ExportNameOutOfRange name)) → (stated_edition sheet ≡ 2) × NoString m name.0
  -- 28 is of edition 2 and has the place of the first export whose name was there before
  pub duplicate : (i : ℕ) → r ≡ Err (in_module (DuplicateExport i)) → (stated_edition sheet ≡ 2) × Repeats m i
  -- edition 1 leaves names unread: of an export only the index is judged
  pub unread : stated_edition sheet ≡ 1 → exports_faults m ≡ map in_module (concat_map (index_faults m) m.exports)

-- of every call
unfoldable pub NamesRight : Type 0
NamesRight =
    (sheet hosts table work : List ℕ) (r : Loaded) (left work_left : List ℕ) (m : Module) → decode sheet ≡ Some m →
    Loads sheet hosts table work r left work_left → NamesAnswered sheet m r
