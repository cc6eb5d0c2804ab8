-- Families by declared parents: who descends from whom, how many do, how deep one is, and the nearest of two.
-- `most` is the most numbers on a chain.
use Rattle.std.specs.Prelude.{ℕ, List, [], ◌∷◌, Bool, cond, ◌&&◌, eqb, ltb, length, Option}
use Rattle.lists.specs.Lists.{contains, from, keep, places_from}
use Rattle.lists.specs.Best.{best}
use Rattle.sheet.specs.Module.{TypeDef, type_at, is_struct}
use Rattle.parents.specs.Forest.{chain, chain_length}

-- t descends from a: both are structs, and a stands on the chain from t, which begins with t itself
unfoldable pub is_from : ℕ → List TypeDef → ℕ → ℕ → Bool
is_from most types t a = is_struct (type_at types t) && is_struct (type_at types a) && contains (chain types most t) a

-- ── how many ──

-- the types that descend from a, itself included, by rising number
unfoldable pub family : ℕ → List TypeDef → ℕ → List ℕ
family most types a = keep (λ t. is_from most types t a) (from 0 (length types))

unfoldable pub family_size : ℕ → List TypeDef → ℕ → ℕ
family_size most types a = length (family most types a)

-- how many struct types are declared
unfoldable pub struct_count : List TypeDef → ℕ
struct_count types = length (keep is_struct types)

-- their numbers, rising
unfoldable pub struct_numbers : List TypeDef → List ℕ
struct_numbers types = places_from 0 is_struct types

-- ── how deep ──

-- how many numbers the chain of a struct type has; 0 for what is none
unfoldable pub family_depth : ℕ → List TypeDef → ℕ → ℕ
family_depth most types t = cond (is_struct (type_at types t)) (chain_length most types t) 0

-- ── the nearest family ──

-- the types that both descend from, by rising number
unfoldable pub common_families : ℕ → List TypeDef → ℕ → ℕ → List ℕ
common_families most types t u = keep (λ a. is_from most types t a && is_from most types u a) (from 0 (length types))

-- a has a longer chain than b
unfoldable pub is_deeper : ℕ → List TypeDef → ℕ → ℕ → Bool
is_deeper most types a b = ltb (chain_length most types b) (chain_length most types a)

-- the common ancestor with the longest chain, or none
unfoldable pub nearest : ℕ → List TypeDef → ℕ → ℕ → Option ℕ
nearest most types t u = best (is_deeper most types) (common_families most types t u)

-- the last member; x of no members
unfoldable pub last_of : ℕ → List ℕ → ℕ
last_of x [] = x
last_of x (y ∷ ys) = last_of y ys

-- where the chain from t ends
unfoldable pub root_of : ℕ → List TypeDef → ℕ → ℕ
root_of most types t = last_of t (chain types most t)

-- both are structs, and their chains end at one root
unfoldable pub have_one_root : ℕ → List TypeDef → ℕ → ℕ → Bool
have_one_root most types t u =
    is_struct (type_at types t) && is_struct (type_at types u) && eqb (root_of most types t) (root_of most types u)
