-- Cases by computing: structs 0 and 1 below struct 2, a type that is no struct, and a root of its own.
use Rattle.std.specs.Prelude.{ℕ, ◌≡◌, refl, List, [], ◌∷◌, true, false, None, Some}
use Rattle.sheet.specs.Module.{TypeDef, struct, coroutine, type_at, kind_word, struct_of, is_struct}
use Rattle.lists.specs.Best.{winner, best}
use Rattle.parents.specs.Forest.{struct_entry, entry_of, entry, entry_at, parents, walk, chain, chain_length}
use Rattle.families.specs.Families.{is_from, family, family_size, struct_count, struct_numbers, family_depth}
use Rattle.families.specs.Families.{common_families, is_deeper, nearest, last_of, root_of, have_one_root}
use Rattle.families.specs.Counted.{counted_of, count_numbers}

-- a struct without members, by its parent + 1
abbrev pub child : ℕ → TypeDef
child parent+ = struct (record { name = 0; parent+ = parent+; fields = []; methods = [] })

abbrev pub sample : List TypeDef
sample = child 3 ∷ child 3 ∷ child 0 ∷ coroutine ∷ child 0 ∷ []

-- `unfolding computed` opens what families are computed by
unfoldable pub computed : List TypeDef → ℕ → ℕ
unfolding family_size family is_from is_struct kind_word type_at chain walk parents entry_at entry entry_of struct_of struct_entry
computed types a = family_size 256 types a

-- itself, a parent, not the other way, no sibling, no struct, no type
descents : (is_from 256 sample 0 0 ≡ true) × (is_from 256 sample 0 2 ≡ true) × (is_from 256 sample 2 0 ≡ false)
    × (is_from 256 sample 0 1 ≡ false) × (is_from 256 sample 3 3 ≡ false) × (is_from 256 sample 5 5 ≡ false)
unfolding computed
descents = (refl, refl, refl, refl, refl, refl)

sizes : (family_size 256 sample 0 ≡ 1) × (family_size 256 sample 2 ≡ 3) × (family_size 256 sample 3 ≡ 0)
    × (family_size 256 sample 4 ≡ 1) × (family_size 256 sample 5 ≡ 0)
unfolding computed
sizes = (refl, refl, refl, refl, refl)

structs : (struct_count sample ≡ 4) × (struct_numbers sample ≡ 0 ∷ 1 ∷ 2 ∷ 4 ∷ [])
unfolding computed struct_count struct_numbers
structs = (refl, refl)

-- struct 0, its child 1, and below that 2 and 3
abbrev tall : List TypeDef
tall = child 0 ∷ child 1 ∷ child 2 ∷ child 2 ∷ []

-- a root, its child and the child's child; no struct, no type
depths : (family_depth 256 tall 0 ≡ 1) × (family_depth 256 tall 1 ≡ 2) × (family_depth 256 tall 3 ≡ 3)
    × (family_depth 256 sample 3 ≡ 0) × (family_depth 256 sample 5 ≡ 0)
unfolding computed family_depth chain_length
depths = (refl, refl, refl, refl, refl)

-- the longest chain, not the shortest; a parent, itself; roots that differ, no struct, no type
nearests : (nearest 256 tall 2 3 ≡ Some 1) × (nearest 256 tall 3 1 ≡ Some 1) × (nearest 256 tall 0 2 ≡ Some 0)
    × (nearest 256 sample 0 1 ≡ Some 2) × (nearest 256 sample 0 0 ≡ Some 0) × (nearest 256 sample 0 4 ≡ None)
    × (nearest 256 sample 3 3 ≡ None) × (nearest 256 sample 5 0 ≡ None) × (nearest 256 sample 0 5 ≡ None)
unfolding computed nearest common_families is_deeper chain_length best winner
nearests = (refl, refl, refl, refl, refl, refl, refl, refl, refl)

rooted : (root_of 256 tall 3 ≡ 0) × (have_one_root 256 tall 3 0 ≡ true) × (have_one_root 256 sample 0 4 ≡ false)
    × (have_one_root 256 sample 3 3 ≡ false) × (have_one_root 256 sample 0 5 ≡ false)
unfolding computed have_one_root root_of last_of
rooted = (refl, refl, refl, refl, refl)

counts : (count_numbers (counted_of None) ≡ 1 ∷ 0 ∷ []) × (count_numbers (Some 4) ≡ 0 ∷ 4 ∷ [])
unfolding count_numbers counted_of
counts = (refl, refl)
