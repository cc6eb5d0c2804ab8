-- Cases by computing, on lent words that no load wrote.
use Rattle.std.specs.Prelude.{ℕ, ◌≡◌, refl, List, [], ◌∷◌, true, false, cond, Err, Ok}
use Rattle.lists.specs.Best.{winner, best}
use Rattle.descends.specs.declared.QueryError.TheVariants.{NotLinked}
use Rattle.descends.specs.Descends.{table_length, spans_start, span_count, spans_end, is_linked}
use Rattle.descends.specs.Descends.{pre_in, post_in, length_in, if_known, is_within}
use Rattle.descends.specs.Lengths.{chain_length_in, length_numbers}
use Rattle.descends.specs.Sizes.{width_in, size_in, size_numbers}
use Rattle.descends.specs.Nearest.{holds_both, is_narrower, nearest_of, family_of, nearest_in, nearest_numbers}

-- `unfolding read` opens what spans are read by
unfoldable read : List ℕ → ℕ → ℕ
unfolding width_in pre_in post_in is_linked table_length spans_start span_count spans_end
read ws a = cond (is_linked ws) (width_in ws a) 0

-- edition, L, starts, three spans: 0 to 3, 2 to 2, 5 to 1, with chain lengths 1, 9 and 4294967295
abbrev lent : List ℕ
lent = 2 ∷ 20 ∷ 0 ∷ 0 ∷ 0 ∷ 0 ∷ 0 ∷ 0 ∷ 0 ∷ 10 ∷ 3 ∷ 0 ∷ 3 ∷ 1 ∷ 2 ∷ 2 ∷ 9 ∷ 5 ∷ 1 ∷ 4294967295 ∷ []

-- a number that is no type has size 0, and so has a span that ends before it begins; no words are no linked table
sizes : (size_in lent 0 ≡ Ok 3) × (size_in lent 1 ≡ Ok 0) × (size_in lent 2 ≡ Ok 0)
    × (size_in lent 3 ≡ Ok 0) × (size_in [] 9 ≡ Err NotLinked)
unfolding read size_in if_known
sizes = (refl, refl, refl, refl, refl)

size_numbered : (size_numbers (Ok 3) ≡ 0 ∷ 3 ∷ []) × (size_numbers (Err NotLinked) ≡ 25 ∷ 0 ∷ [])
unfolding size_numbers
size_numbered = (refl, refl)

-- the third word, whatever stands there; a number that is no type has length 0
lengths : (chain_length_in lent 0 ≡ Ok 1) × (chain_length_in lent 1 ≡ Ok 9) × (chain_length_in lent 2 ≡ Ok 4294967295)
    × (chain_length_in lent 3 ≡ Ok 0) × (chain_length_in [] 9 ≡ Err NotLinked)
unfolding read chain_length_in length_in if_known
lengths = (refl, refl, refl, refl, refl)

length_numbered : (length_numbers (Ok 3) ≡ 0 ∷ 3 ∷ []) × (length_numbers (Err NotLinked) ≡ 25 ∷ 0 ∷ [])
unfolding length_numbers
length_numbered = (refl, refl)

-- ── no linked table ──

-- edition 1 with two words a span, edition 2 with two words a span, and edition 1 with three
old : (is_linked (1 ∷ 13 ∷ 0 ∷ 0 ∷ 0 ∷ 0 ∷ 0 ∷ 0 ∷ 0 ∷ 10 ∷ 1 ∷ 0 ∷ 1 ∷ []) ≡ false)
    × (is_linked (2 ∷ 13 ∷ 0 ∷ 0 ∷ 0 ∷ 0 ∷ 0 ∷ 0 ∷ 0 ∷ 10 ∷ 1 ∷ 0 ∷ 1 ∷ []) ≡ false)
    × (is_linked (1 ∷ 14 ∷ 0 ∷ 0 ∷ 0 ∷ 0 ∷ 0 ∷ 0 ∷ 0 ∷ 10 ∷ 1 ∷ 0 ∷ 1 ∷ 1 ∷ []) ≡ false)
    × (is_linked (2 ∷ 14 ∷ 0 ∷ 0 ∷ 0 ∷ 0 ∷ 0 ∷ 0 ∷ 0 ∷ 10 ∷ 1 ∷ 0 ∷ 1 ∷ 1 ∷ []) ≡ true)
unfolding read
old = (refl, refl, refl, refl)

-- a count whose triple is 2 in 32 bits
wrapping : is_linked (2 ∷ 14 ∷ 0 ∷ 0 ∷ 0 ∷ 0 ∷ 0 ∷ 0 ∷ 0 ∷ 10 ∷ 1431655766 ∷ 0 ∷ 1 ∷ 1 ∷ []) ≡ false
unfolding read
wrapping = refl

-- ── nearest families ──

-- five spans: 0 to 4, 1 to 3 twice, 2 to 3, and that of a type that is no struct
abbrev twins : List ℕ
twins =
    2 ∷ 26 ∷ 0 ∷ 0 ∷ 0 ∷ 0 ∷ 0 ∷ 0 ∷ 0 ∷ 10 ∷ 5
    ∷ 0 ∷ 4 ∷ 1 ∷ 1 ∷ 3 ∷ 2 ∷ 1 ∷ 3 ∷ 2 ∷ 2 ∷ 3 ∷ 3 ∷ 4294967295 ∷ 0 ∷ 0 ∷ []

-- the two numbers; `unfolding two` opens what they are computed by
unfoldable two : List ℕ → ℕ → ℕ → List ℕ
unfolding read nearest_numbers nearest_in family_of nearest_of best winner is_narrower holds_both is_within
two ws t u = nearest_numbers (nearest_in ws t u)

-- of spans as wide the lowest number, also for a type with itself; a narrower span that does not hold both is none
found : (two twins 1 2 ≡ 0 ∷ 1 ∷ []) × (two twins 2 2 ≡ 0 ∷ 1 ∷ []) × (two twins 3 1 ≡ 0 ∷ 1 ∷ [])
    × (two twins 3 3 ≡ 0 ∷ 3 ∷ []) × (two twins 3 0 ≡ 0 ∷ 0 ∷ []) × (two twins 0 3 ≡ 0 ∷ 0 ∷ [])
unfolding two
found = (refl, refl, refl, refl, refl, refl)

-- of a type that is no struct, and of a number that is no type
none : (two twins 4 4 ≡ 1 ∷ 0 ∷ []) × (two twins 5 0 ≡ 1 ∷ 0 ∷ []) × (two twins 0 5 ≡ 1 ∷ 0 ∷ [])
unfolding two
none = (refl, refl, refl)

-- on words that are no linked table, whatever the numbers
unlinked : two [] 9 9 ≡ 25 ∷ 0 ∷ []
unfolding two
unlinked = refl
