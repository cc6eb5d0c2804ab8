-- `sizes_right` is about something: a sheet, a call that accepts it, and what is then answered.
use Rattle.std.specs.Prelude.{◌≡◌, refl, List, [], ◌∷◌, ℕ, get_or, replicate, Ok, Some}
use Rattle.error.specs.Answer.{numbers}
use Rattle.sheet.specs.Module.{Module}
use Rattle.sheet.specs.Encode.{sheet_of}
use Rattle.host.specs.Host.{hosts_of}
use Rattle.descends.specs.Sizes.{size_in}
use Rattle.families.specs.Families.{is_from, family, family_size, struct_count}
use Rattle.families.specs.Counted.{counted_of, structs_in}
use Rattle.families.proofs.Cases.{sample}
use Rattle.load.specs.Load.{load, table_after, work_after}
use Rattle.law_everything.specs.Everything.{everything}
use Rattle.calls.specs.Calls.{Loads, Begins}
use Rattle.family_calls.specs.FamilyCalls.{SizesAsked, SizesRight, root_sizes}
use Rattle.family_calls.proofs.FamilyCallLaws.{sizes_right}

-- structs 0 and 1 below struct 2, a type that is no struct, and a root of its own
abbrev pub small : Module
small =
    record {
      edition = 1;
      strings = [] ∷ [];
      types = sample;
      consts = [];
      imports = [];
      globals = [];
      funcs = [];
      hooks = [];
      start+ = 0;
      exports = [];
    }

abbrev pub sheet : List ℕ
sheet = sheet_of small

abbrev pub slice : List ℕ
slice = replicate 500 7

abbrev pub words : ℕ
words = get_or (numbers (load sheet (hosts_of []) 500 500)) 2 0

abbrev pub left : List ℕ
left = table_after sheet (hosts_of []) slice slice

pub calling : Loads sheet (hosts_of []) slice slice (Ok words) left (work_after sheet (hosts_of []) slice slice)
unfolding everything
calling = record { answers = refl; leaves = refl; clears = refl }

-- what the theorem gives
asked : SizesAsked sheet small left
unfolding SizesRight Begins everything
asked = sizes_right sheet (hosts_of []) slice slice words left (work_after sheet (hosts_of []) slice slice) small refl calling left refl

-- the root 2 holds three types, the root 4 itself, and type 3 is no struct
told : (size_in left 2 ≡ Ok 3) × (size_in left 4 ≡ Ok 1) × (size_in left 3 ≡ Ok 0)
unfolding everything family_size family is_from
told = (
  asked.declared 2 (size_in left 2) (record { answers = refl }),
  asked.declared 4 (size_in left 4) (record { answers = refl }),
  asked.declared 3 (size_in left 3) (record { answers = refl }),
)

-- four struct types in two root families
counted : (structs_in sheet ≡ Some 4) × (root_sizes small ≡ 4)
unfolding everything structs_in counted_of struct_count family_size family is_from
counted = (refl, refl)
