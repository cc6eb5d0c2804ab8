-- What follows of canonical numbers, and examples that compute. No contract cites this file.
use Rattle.std.specs.Prelude.{◌≡◌, refl, Bool, true, false, cond, List, [], ◌∷◌, map, ◌⊎◌, ℕ, ◌≤◌, ◌<◌, length, get_or}
use Rattle.std.proofs.Common.{sym, ap, ◌∙◌, inl, inr, arith}
use Rattle.lists.specs.Lists.{from, same}
use Rattle.lists.specs.ListLaws.{same_eq, same_self}
use Rattle.lists.specs.FirstLaws.{first_most, first_passes}
use Rattle.open_canon.specs.Numbers.{first_equal, number, canonical, own_by}

-- ── the least number ──

-- an item's number is at most its own, its content is the item's, and no lower number has it
pub first_least : (l : List (List ℕ)) (i : ℕ) → i < length l →
    (first_equal l i ≤ i) × (get_or l (first_equal l i) [] ≡ get_or l i []) × ((k : ℕ) → k < first_equal l i → get_or l k [] ≡ get_or l i [] → ⊥)
first_least l i h =
    let low = first_most (same (get_or l i [])) [] l i h (same_self (get_or l i [])) in (
      low,
      sym (same_eq (get_or l i []) (get_or l (first_equal l i) []) (first_passes (same (get_or l i [])) [] l (omega arith))),
      λ k m e. omega (arith, first_most (same (get_or l i [])) [] l k (omega arith) (ap (same (get_or l i [])) e ∙ same_self (get_or l i []))),
    )

-- ── equal numbers, equal contents ──

pub number_alike : (own : List ℕ → Bool) (l : List (List ℕ)) (i j : ℕ) → own (get_or l i []) ≡ false → get_or l i [] ≡ get_or l j [] → number own l i ≡ number own l j
number_alike own l i j o e = rw (o, ← e, o) refl

pub number_apart : (own : List ℕ → Bool) (l : List (List ℕ)) (i j : ℕ) → i < length l → j < length l → number own l i ≡ number own l j →
    (i ≡ j) ⊎ ((own (get_or l i []) ≡ false) × (get_or l i [] ≡ get_or l j []))
number_apart own l i j hi hj = go (own (get_or l i [])) (own (get_or l j [])) refl refl
  where
    go : (a b : Bool) → own (get_or l i []) ≡ a → own (get_or l j []) ≡ b → cond a i (first_equal l i) ≡ cond b j (first_equal l j) →
        (i ≡ j) ⊎ ((own (get_or l i []) ≡ false) × (get_or l i [] ≡ get_or l j []))
    go true true ea eb e = inl e
    go true false ea eb e = absurd (let q = ap own (ap (λ (k : ℕ). get_or l k []) e ∙ (first_least l j hj).1) in let z : ◌≡◌ {A = ℕ} 0 1 = cc in omega arith)
    go false true ea eb e = absurd (let q = ap own (ap (λ (k : ℕ). get_or l k []) (sym e) ∙ (first_least l i hi).1) in let z : ◌≡◌ {A = ℕ} 0 1 = cc in omega arith)
    go false false ea eb e = inr (ea, sym (first_least l i hi).1 ∙ ap (λ (k : ℕ). get_or l k []) e ∙ (first_least l j hj).1)

-- with no content of its own: the least equal
pub canonical_plain : (l : List (List ℕ)) → canonical (own_by false) l ≡ map (first_equal l) (from 0 (length l))
unfolding canonical
canonical_plain l = refl

-- ── examples ──

ex_items : List (List ℕ)
ex_items = (7 ∷ 1 ∷ []) ∷ (1 ∷ 5 ∷ []) ∷ (7 ∷ 1 ∷ []) ∷ [] ∷ (1 ∷ 5 ∷ []) ∷ [] ∷ (7 ∷ []) ∷ (7 ∷ 1 ∷ []) ∷ []

ex_plain : canonical (own_by false) ex_items ≡ 0 ∷ 1 ∷ 0 ∷ 3 ∷ 1 ∷ 3 ∷ 6 ∷ 0 ∷ []
unfolding canonical ex_items
ex_plain = refl

ex_marked : canonical (own_by true) ex_items ≡ 0 ∷ 1 ∷ 0 ∷ 3 ∷ 4 ∷ 3 ∷ 6 ∷ 0 ∷ []
unfolding canonical ex_items
ex_marked = refl
