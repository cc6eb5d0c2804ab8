-- The least number of an equal content, from what a scan knows of it.
use Rattle.std.specs.Prelude.{◌≡◌, refl, Bool, true, false, cond, ℕ, zero, suc, ◌<◌, length, get_or}
use Rattle.std.proofs.Common.{sym, ◌∙◌, arith, zero-add}
use Rattle.std.proofs.Math.Path.{ap}
use mathlib.Core.List.{List, [], ◌∷◌}
use Rattle.std.proofs.Math.ListN.{length-map}
use Rattle.lists.specs.Lists.{from, first_at, same}
use Rattle.lists.specs.ListLaws.{length_from, get_d_map_from, same_eq, same_self}
use Rattle.sorting.specs.Items.{item}
use Rattle.open_canon.specs.Numbers.{items, first_equal, number, canonical}

-- j is the first place of a
first_is : (a : List ℕ) (l : List (List ℕ)) (j : ℕ) → j < length l → get_or l j [] ≡ a → ((k : ℕ) → k < j → get_or l k [] ≡ a → ⊥) → first_at (same a) l ≡ j
first_is a [] j h e n = absurd (omega arith)
first_is a (b ∷ l) zero h e n = rw (e, same_self a)
first_is a (b ∷ l) (suc j) h e n = go (same a b) refl (first_is a l j (omega arith) e (λ k m q. n (suc k) (omega arith) q))
  where
    go : (t : Bool) → same a b ≡ t → first_at (same a) l ≡ j → cond t 0 (suc (first_at (same a) l)) ≡ suc j
    go true q i = absurd (n 0 (omega arith) (sym (same_eq a b q)))
    go false q i = ap suc i

module _ (ws S : List ℕ) (n : ℕ) where
  pub items_length : length (items ws S n) ≡ n
  unfolding items
  items_length = length-map (from 0 n) (item ws S) ∙ length_from 0 n

  pub items_at : (i : ℕ) → i < n → get_or (items ws S n) i [] ≡ item ws S i
  unfolding items
  items_at i h = get_d_map_from (item ws S) [] 0 n i h ∙ ap (item ws S) (omega arith)

  -- h is the least number whose item equals item v
  pub record First (v h : ℕ) : Type 0 where
    pub in_range_lem : h < n
    pub alike : item ws S h ≡ item ws S v
    pub least : (k : ℕ) → k < h → item ws S k ≡ item ws S v → ⊥

  first_of : (v h : ℕ) → First v h → first_at (same (item ws S v)) (items ws S n) ≡ h
  first_of v h f = first_is (item ws S v) (items ws S n) h
      (omega (arith, items_length, f.in_range_lem))
      (items_at h f.in_range_lem ∙ f.alike)
      (λ k m e. f.least k m (sym (items_at k (omega (arith, f.in_range_lem))) ∙ e))

  pub first_equal_lem : (v h : ℕ) → v < n → First v h → first_equal (items ws S n) v ≡ h
  first_equal_lem v h b f = rw (items_at v b) (first_of v h f)

  pub numbers_length : (own : List ℕ → Bool) → length (canonical own (items ws S n)) ≡ n
  unfolding canonical
  numbers_length own = length-map (from 0 (length (items ws S n))) (number own (items ws S n)) ∙ length_from 0 (length (items ws S n)) ∙ items_length

  pub numbers_at : (own : List ℕ → Bool) (v h : ℕ) → v < n → First v h → get_or (canonical own (items ws S n)) v 0 ≡ cond (own (item ws S v)) v h
  unfolding canonical
  numbers_at own v h b f = get_d_map_from (number own (items ws S n)) 0 0 (length (items ws S n)) v (omega (arith, items_length))
      ∙ ap (number own (items ws S n)) (zero-add v)
      ∙ (rw (items_at v b, first_of v h f) refl)
