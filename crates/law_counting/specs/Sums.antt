-- Sums over two lists in which the same numbers stand once each; sums over the members of a list by their places.
use Rattle.std.specs.Prelude.{◌≡◌, refl, Bool, true, false, List, [], ◌∷◌, map, ℕ, zero, suc, ◌+◌, ◌*◌, ◌≤◌, ◌<◌, T, eqb, length, get_or}
use Rattle.std.proofs.Common.{sym, ap, ap₂, ◌∙◌, subst, arith, mul-add, eqb→eq, length-append}
use Rattle.std.proofs.Math.Decide.{ℕ_discrete}
use Rattle.lists.specs.Lists.{concat_map, from}
use Rattle.law_counting.specs.Counting.{tick, count, sum, bool_ext, eqb_of, eqb_sym, tick_not, sum_ext, sum_plus, sum_none, sum_ext_in, count_from}

sum_weighed : (w : ℕ → ℕ) (y : ℕ) (m : List ℕ) → sum (λ c. w c * tick (eqb c y)) m ≡ w y * count y m
sum_weighed w y [] = omega arith
sum_weighed w y (c ∷ m) = rw (eqb_sym y c) (go (eqb c y) (eqb→eq c y) (sum_weighed w y m))
  where
    go : (b : Bool) → (T b → c ≡ y) → sum (λ c. w c * tick (eqb c y)) m ≡ w y * count y m → w c * tick b + sum (λ c. w c * tick (eqb c y)) m ≡ w y * (tick b + count y m)
    go true q e = omega (arith, ap w (q tt))
    go false q e = omega arith

-- the pairs of equal members of two lists, weighed, from either side
exchange_weighed : (w : ℕ → ℕ) (l m : List ℕ) → sum (λ c. w c * count c l) m ≡ sum (λ y. w y * count y m) l
exchange_weighed w [] m = sum_ext (λ c. w c * 0) (λ c. 0) (λ c. omega arith) m ∙ sum_none m
exchange_weighed w (y ∷ l) m =
    sum_ext (λ c. w c * (tick (eqb c y) + count c l)) (λ c. w c * tick (eqb c y) + w c * count c l) (λ c. mul-add (w c) (tick (eqb c y)) (count c l)) m
    ∙ omega (arith, sum_plus (λ c. w c * tick (eqb c y)) (λ c. w c * count c l) m, sum_weighed w y m, exchange_weighed w l m)

-- where each member of either list stands once in the other
pub sum_once : (g : ℕ → ℕ) (l m : List ℕ) → ((y : ℕ) → 1 ≤ count y l → count y m ≡ 1) → ((y : ℕ) → 1 ≤ count y m → count y l ≡ 1) → sum g l ≡ sum g m
sum_once g l m p q = sum_ext_in g (λ y. g y * count y m) l (once m p) ∙ sym (sum_ext_in g (λ y. g y * count y l) m (once l q) ∙ exchange_weighed g l m)
  where
    once : (k : List ℕ) {P : ℕ → Type 0} → ((y : ℕ) → P y → count y k ≡ 1) → (y : ℕ) → P y → g y ≡ g y * count y k
    once k h y a = rw (h y a) (omega arith)

-- ── a sum below another ──

sum_less : (g h : ℕ → ℕ) → ((x : ℕ) → g x ≤ h x) → (l : List ℕ) → sum g l ≤ sum h l
sum_less g h e [] = omega arith
sum_less g h e (x ∷ l) = omega (arith, e x, sum_less g h e l)

-- no member gives more, and one gives less
pub sum_below : (g h : ℕ → ℕ) → ((x : ℕ) → g x ≤ h x) → (b : ℕ) → g b < h b → (l : List ℕ) → 1 ≤ count b l → sum g l < sum h l
sum_below g h e b s [] k = absurd (omega arith)
sum_below g h e b s (x ∷ l) k = go (ℕ_discrete b x) (sum_below g h e b s l)
  where
    go : Dec (b ≡ x) → (1 ≤ count b l → sum g l < sum h l) → g x + sum g l < h x + sum h l
    go (yes q) ih = omega (arith, subst (λ y. g y < h y) q s, sum_less g h e l)
    go (no q) ih = omega (arith, e x, ih (omega (arith, tick_not b x q)))

-- ── numbers moved ──

sum_map : (g π : ℕ → ℕ) (l : List ℕ) → sum g (map π l) ≡ sum (λ t. g (π t)) l
sum_map g π [] = refl
sum_map g π (t ∷ l) = ap (λ k. g (π t) + k) (sum_map g π l)

from_below : (y k m : ℕ) → 1 ≤ count y (from k m) → y < k + m
from_below y k zero h = absurd (omega arith)
from_below y k (suc m) h = go (ℕ_discrete y k) (from_below y (suc k) m)
  where
    go : Dec (y ≡ k) → (1 ≤ count y (from (suc k) m) → y < suc k + m) → y < k + suc m
    go (yes e) ih = omega arith
    go (no e) ih = omega (arith, tick_not y k e, ih (omega (arith, tick_not y k e)))

module _ (π ρ : ℕ → ℕ) (back : (t : ℕ) → ρ (π t) ≡ t) (forth : (t : ℕ) → π (ρ t) ≡ t) where
  count_moved : (y : ℕ) (l : List ℕ) → count y (map π l) ≡ count (ρ y) l
  count_moved y [] = refl
  count_moved y (t ∷ l) = ap₂ (λ b k. tick b + k) e (count_moved y l)
    where
      e : eqb y (π t) ≡ eqb (ρ y) t
      e = bool_ext (eqb y (π t)) (eqb (ρ y) t)
          (λ h. eqb_of (ρ y) t (ap ρ (eqb→eq y (π t) h) ∙ back t))
          (λ h. eqb_of y (π t) (sym (forth y) ∙ ap π (eqb→eq (ρ y) t h)))

  -- numbers below n, each taken to another
  pub sum_moved : (n : ℕ) → ((t : ℕ) → t < n → π t < n) → ((t : ℕ) → t < n → ρ t < n) → (g : ℕ → ℕ) → sum (λ t. g (π t)) (from 0 n) ≡ sum g (from 0 n)
  sum_moved n below under g = sym (sum_map g π (from 0 n)) ∙ sum_once g (map π (from 0 n)) (from 0 n) there here
    where
      there : (y : ℕ) → 1 ≤ count y (map π (from 0 n)) → count y (from 0 n) ≡ 1
      there y h =
          let k : ρ y < n = omega (arith, from_below (ρ y) 0 n (omega (arith, count_moved y (from 0 n)))) in
          count_from y 0 n (omega arith) (omega (arith, below (ρ y) k, forth y))

      here : (y : ℕ) → 1 ≤ count y (from 0 n) → count y (map π (from 0 n)) ≡ 1
      here y h = count_moved y (from 0 n) ∙ count_from (ρ y) 0 n (omega arith) (omega (arith, under y (omega (arith, from_below y 0 n h))))

-- ── members by places ──

sum_shift : (g : ℕ → ℕ) (k m : ℕ) → sum g (from (suc k) m) ≡ sum (λ t. g (suc t)) (from k m)
sum_shift g k zero = refl
sum_shift g k (suc m) = ap (λ s. g (suc k) + s) (sum_shift g (suc k) m)

pub length_by_places : {A B : Type 0} (f : A → List B) (d : A) (xs : List A) → length (concat_map f xs) ≡ sum (λ t. length (f (get_or xs t d))) (from 0 (length xs))
length_by_places f d [] = refl
length_by_places f d (x ∷ xs) =
    length-append (f x) (concat_map f xs)
    ∙ ap (λ k. length (f x) + k) (length_by_places f d xs ∙ sym (sum_shift (λ t. length (f (get_or (x ∷ xs) t d))) 0 (length xs)))
