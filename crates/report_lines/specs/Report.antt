-- The report over sheets: lines of numbers, and exact totals.
use Rattle.std.specs.Prelude.{ℕ, List, [], ◌∷◌, ◌++◌, map, Option, None, Some, Err, Ok}
use Rattle.lists.specs.Lists.{concat_map, sum}
use Rattle.error.specs.Answer.{Loaded}
use Rattle.error.specs.Answer.{numbers}
use Rattle.sheet.specs.Module.{Module, no_module}
use Rattle.sheet.specs.Decode.{decode}
use Rattle.sheet.specs.Editions.{most_of}
use Rattle.load.specs.Load.{load}
use Rattle.families.specs.Families.{family_size, struct_count, struct_numbers}

-- words of table and of work: 64 + 8N for the N of 16 blocks
abbrev pub program_room : ℕ
program_room = 16320

-- the answer to a sheet, under one host list
unfoldable pub judged : List ℕ → List ℕ → Loaded
judged hosts sheet = load sheet hosts program_room program_room

unfoldable pub module_or : Option Module → Module
module_or None = no_module
module_or (Some m) = m

-- the module of an accepted sheet; a refused one declares nothing
unfoldable pub counting : Loaded → Module → Module
counting (Ok l) m = m
counting (Err e) m = no_module

unfoldable pub counted_module : List ℕ → List ℕ → Module
counted_module hosts sheet = counting (judged hosts sheet) (module_or (decode sheet))

-- ── lines ──

-- a struct type, and how many types descend from it, itself included
unfoldable pub family_line : Module → ℕ → List ℕ
family_line m t = t ∷ family_size (most_of m) m.types t ∷ []

-- a line for every struct type, by rising number
unfoldable pub family_lines : Module → List (List ℕ)
family_lines m = map (family_line m) (struct_numbers m.types)

-- the six numbers and, if the sheet is accepted, its families
unfoldable pub sheet_lines : List ℕ → List ℕ → List (List ℕ)
sheet_lines hosts sheet = numbers (judged hosts sheet) ∷ family_lines (counted_module hosts sheet)

-- ── totals ──

-- the struct types of a sheet, counted from the declarations
unfoldable pub structs_total : Module → ℕ
structs_total m = struct_count m.types

-- the sizes of all its families, one for each struct type
unfoldable pub sizes_total : Module → ℕ
sizes_total m = sum (family_size (most_of m) m.types) (struct_numbers m.types)

-- of all sheets: how many struct types, then the sizes
unfoldable pub totals : List Module → List ℕ
totals all = sum structs_total all ∷ sum sizes_total all ∷ []

unfoldable pub total_line : List ℕ → List (List ℕ) → List ℕ
total_line hosts sheets = totals (map (counted_module hosts) sheets)

-- the lines of each sheet in turn, and the totals last
unfoldable pub report : List ℕ → List (List ℕ) → List (List ℕ)
report hosts sheets = concat_map (sheet_lines hosts) sheets ++ (total_line hosts sheets ∷ [])
