-- Pairs and lookups by computing.
use Rattle.std.specs.Prelude.{ℕ, ◌≡◌, refl, List, [], ◌∷◌, true, false}
use Rattle.std.specs.Prelude.{None, Some}
use Rattle.host.specs.Host.{HostFn, named, pairs_distinct, lookup, resolved, is_scheduler}
use Rattle.host.specs.Listed.{found_at, found}

abbrev entry : List ℕ → List ℕ → ℕ → HostFn
entry m n k = record { module_name = m; name = n; kind = k }

-- "ab", "c" and "a", "bc" are two pairs
two_pairs : pairs_distinct (entry (97 ∷ 98 ∷ []) (99 ∷ []) 0 ∷ entry (97 ∷ []) (98 ∷ 99 ∷ []) 0 ∷ []) ≡ true
unfolding pairs_distinct named
two_pairs = refl

-- a pair is twice there also with two kinds
two_kinds : pairs_distinct (entry (97 ∷ []) [] 0 ∷ entry [] (97 ∷ []) 0 ∷ entry (97 ∷ []) [] 1 ∷ []) ≡ false
unfolding pairs_distinct named
two_kinds = refl

-- places count from 0
second : found (entry (97 ∷ []) (98 ∷ []) 0 ∷ entry (97 ∷ []) (99 ∷ []) 1 ∷ []) (97 ∷ []) (99 ∷ []) ≡ Some (1, true)
unfolding found found_at lookup resolved is_scheduler named
second = refl

nowhere : found (entry (97 ∷ []) (98 ∷ []) 0 ∷ []) (98 ∷ []) (97 ∷ []) ≡ None
unfolding found found_at lookup resolved is_scheduler named
nowhere = refl
