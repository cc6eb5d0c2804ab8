-- The edition of a sheet, said of what calls of `load` answer.
use Rattle.std.specs.Prelude.{ℕ, ◌≡◌, true, List, length, Some, Err}
use Rattle.blocks.specs.Blocks.{words, edition_word}
use Rattle.error.specs.declared.LoadErrorKind.TheVariants.{Decode, BadHostList}
use Rattle.error.specs.Answer.{Loaded}
use Rattle.error.specs.Answer.{in_module, first}
use Rattle.sheet.specs.Module.{Module}
use Rattle.sheet.specs.Decode.{decode}
use Rattle.host.specs.Host.{HostFn, decode_hosts}
use Rattle.table.specs.Table.{table_words}
use Rattle.load.specs.Load.{module_faults, long_enough}
use Rattle.renumber.specs.Renumber.{RenumberedSheet}
use Rattle.calls.specs.Calls.{Loads}

-- the edition that the bytes of a sheet or of a host list state
abbrev pub stated_edition : List ℕ → ℕ
stated_edition bytes = edition_word (words bytes)

-- the answer of the rules with at most so many numbers on a chain
unfoldable pub answer_under : ℕ → List HostFn → Module → Loaded
answer_under most hosts m = first (length (table_words most hosts m)) (module_faults most hosts m)

-- what the edition decides of an answer
pub record EditionAnswered (sheet hosts : List ℕ) (table work : ℕ) (r : Loaded) : Type 0 where
  -- a sheet of any other edition than 1 and 2 is refused with 1
  pub other_sheet : (stated_edition sheet ≡ 1 → ⊥) → (stated_edition sheet ≡ 2 → ⊥) → r ≡ Err (in_module Decode)
  -- a host list of any other edition than 1 is refused with 23
  pub other_hosts : (m : Module) → decode sheet ≡ Some m → (stated_edition hosts ≡ 1 → ⊥) → r ≡ Err (in_module BadHostList)
  -- in edition 1 a chain has at most 256 types
  pub first256 : (m : Module) (hs : List HostFn) → decode sheet ≡ Some m → decode_hosts hosts ≡ Some hs →
      long_enough sheet table work ≡ true → stated_edition sheet ≡ 1 → r ≡ answer_under 256 hs m
  -- in edition 2 at most 64
  pub second64 : (m : Module) (hs : List HostFn) → decode sheet ≡ Some m → decode_hosts hosts ≡ Some hs →
      long_enough sheet table work ≡ true → stated_edition sheet ≡ 2 → r ≡ answer_under 64 hs m

-- of every call
unfoldable pub EditionsRight : Type 0
EditionsRight =
    (sheet hosts table work : List ℕ) (r : Loaded) (left work_left : List ℕ) → Loads sheet hosts table work r left work_left →
    EditionAnswered sheet hosts (length table) (length work) r

-- demand 3 is asked within each edition: two sheets that differ by one renumbering state one
unfoldable pub OneEdition : Type 0
OneEdition = (r first second : List ℕ) → RenumberedSheet r first second → stated_edition second ≡ stated_edition first
