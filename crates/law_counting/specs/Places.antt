-- The places of the members that pass a test, by counts; and lists made from numbers.
use Rattle.std.specs.Prelude.{◌≡◌, refl, Bool, true, false, cond, List, [], ◌∷◌, map, ℕ, zero, suc, ◌+◌, ◌<◌, get_or}
use Rattle.std.proofs.Common.{sym, ap, ◌∙◌, arith}
use Rattle.lists.specs.Lists.{from, places_from}
use Rattle.law_counting.specs.Counting.{tick, count, tick_is, tick_not}

module _ {A : Type 0} (p : A → Bool) where
  -- no place is below the first
  places_below : (k : ℕ) (xs : List A) (y : ℕ) → y < k → count y (places_from k p xs) ≡ 0
  places_below k [] y h = refl
  places_below k (x ∷ xs) y h = go (p x) (places_below (suc k) xs y (omega arith))
    where
      go : (b : Bool) → count y (places_from (suc k) p xs) ≡ 0 → count y (cond b (k ∷ places_from (suc k) p xs) (places_from (suc k) p xs)) ≡ 0
      go true q = omega (arith, tick_not y k (omega arith))
      go false q = q

  places_at : (d : A) → p d ≡ false → (k : ℕ) (xs : List A) (i : ℕ) → count (k + i) (places_from k p xs) ≡ tick (p (get_or xs i d))
  places_at d out k [] i = ap tick (sym out)
  places_at d out k (x ∷ xs) zero = go (p x) (places_below (suc k) xs (k + 0) (omega arith))
    where
      go : (b : Bool) → count (k + 0) (places_from (suc k) p xs) ≡ 0 → count (k + 0) (cond b (k ∷ places_from (suc k) p xs) (places_from (suc k) p xs)) ≡ tick b
      go true q = omega (arith, tick_is (k + 0) k (omega arith))
      go false q = q
  places_at d out k (x ∷ xs) (suc i) = go (p x) (ap (λ (j : ℕ). count j (places_from (suc k) p xs)) (omega arith) ∙ places_at d out (suc k) xs i)
    where
      go : (b : Bool) → count (k + suc i) (places_from (suc k) p xs) ≡ tick (p (get_or xs i d)) → count (k + suc i) (cond b (k ∷ places_from (suc k) p xs) (places_from (suc k) p xs)) ≡ tick (p (get_or xs i d))
      go true q = omega (arith, tick_not (k + suc i) k (omega arith))
      go false q = q

  -- each number whose member passes stands once among the places, if what stands past the end does not pass
  pub count_places : (d : A) → p d ≡ false → (xs : List A) (i : ℕ) → count i (places_from 0 p xs) ≡ tick (p (get_or xs i d))
  count_places d out xs i = ap (λ (j : ℕ). count j (places_from 0 p xs)) (omega arith) ∙ places_at d out 0 xs i

-- ── the numbers from k on, each as what f makes of it ──

get_d_map_from : {A : Type 0} (f : ℕ → A) (d : A) (k m i : ℕ) → i < m → get_or (map f (from k m)) i d ≡ f (k + i)
get_d_map_from f d k zero i h = absurd (omega arith)
get_d_map_from f d k (suc m) zero h = ap f (omega arith)
get_d_map_from f d k (suc m) (suc i) h = get_d_map_from f d (suc k) m i (omega arith) ∙ ap f (omega arith)

pub map_from_at : {A : Type 0} (f : ℕ → A) (d : A) (m i : ℕ) → i < m → get_or (map f (from 0 m)) i d ≡ f i
map_from_at f d m i h = get_d_map_from f d 0 m i h ∙ ap f (omega arith)
