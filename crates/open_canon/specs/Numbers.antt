-- Items and their canonical numbers: what the contract means.
use Rattle.std.specs.Prelude.{Bool, true, false, cond, List, [], ◌∷◌, map, ℕ, eqb, length, get_or}
use Rattle.lists.specs.Lists.{from, first_at, same}
use Rattle.sorting.specs.Items.{item}

unfoldable pub items : List ℕ → List ℕ → ℕ → List (List ℕ)
items ws edges n = map (item ws edges) (from 0 n)

-- the least number whose item equals item i
abbrev pub first_equal : List (List ℕ) → ℕ → ℕ
first_equal l i = first_at (same (get_or l i [])) l

-- i's canonical number: its own where its content is one of those that equal no other; else the least of an equal content
abbrev pub number : (List ℕ → Bool) → List (List ℕ) → ℕ → ℕ
number own l i = cond (own (get_or l i [])) i (first_equal l i)

unfoldable pub canonical : (List ℕ → Bool) → List (List ℕ) → List ℕ
canonical own l = map (number own l) (from 0 (length l))

-- the contents that equal no other: none, or those whose first word is 1
abbrev pub own_by : Bool → List ℕ → Bool
own_by false a = false
own_by true [] = false
own_by true (x ∷ a) = eqb x 1
