-- The first member that passes a test.
use Rattle.std.specs.Prelude.{◌≡◌, refl, Bool, true, false, cond, List, [], ◌∷◌, map, ℕ, zero, suc, ◌≤◌, ◌<◌, length, get_or}
use Rattle.std.proofs.Common.{ap, ap₂, arith}
use Rattle.lists.specs.Lists.{first_at}

module _ {A : Type 0} (p : A → Bool) (d : A) where
  -- it is no later than any that passes
  pub first_most : (xs : List A) (i : ℕ) → i < length xs → p (get_or xs i d) ≡ true → first_at p xs ≤ i
  first_most [] i h t = absurd (omega arith)
  first_most (x ∷ xs) zero h t = go (p x) t
    where
      go : (b : Bool) → b ≡ true → cond b 0 (suc (first_at p xs)) ≤ 0
      go true t = omega arith
      go false t = let z : ◌≡◌ {A = ℕ} 0 1 = cc in absurd (omega arith)
  first_most (x ∷ xs) (suc i) h t = go (p x) (first_most xs i (omega arith) t)
    where
      go : (b : Bool) → first_at p xs ≤ i → cond b 0 (suc (first_at p xs)) ≤ suc i
      go true l = omega arith
      go false l = omega arith

  pub first_in : (xs : List A) (i : ℕ) → i < length xs → p (get_or xs i d) ≡ true → first_at p xs < length xs
  first_in xs i h t = omega (arith, first_most xs i h t)

  pub first_passes : (xs : List A) → first_at p xs < length xs → p (get_or xs (first_at p xs) d) ≡ true
  first_passes [] h = absurd (omega arith)
  first_passes (x ∷ xs) h = go (p x) refl h (first_passes xs)
    where
      go : (b : Bool) → p x ≡ b → cond b 0 (suc (first_at p xs)) < suc (length xs) → (first_at p xs < length xs → p (get_or xs (first_at p xs) d) ≡ true) →
          p (get_or (x ∷ xs) (cond b 0 (suc (first_at p xs))) d) ≡ true
      go true e l ih = e
      go false e l ih = ih (omega arith)

  -- none before it passes
  pub first_before : (xs : List A) (i : ℕ) → i < first_at p xs → p (get_or xs i d) ≡ false
  first_before [] i h = absurd (omega arith)
  first_before (x ∷ xs) i h = go (p x) refl i h (first_before xs)
    where
      go : (b : Bool) → p x ≡ b → (i : ℕ) → i < cond b 0 (suc (first_at p xs)) → ((i : ℕ) → i < first_at p xs → p (get_or xs i d) ≡ false) →
          p (get_or (x ∷ xs) i d) ≡ false
      go true e i h ih = absurd (omega arith)
      go false e zero h ih = e
      go false e (suc i) h ih = ih i (omega arith)

  pub first_end : (xs : List A) → first_at p xs ≤ length xs
  first_end [] = omega arith
  first_end (x ∷ xs) = go (p x) (first_end xs)
    where
      go : (b : Bool) → first_at p xs ≤ length xs → cond b 0 (suc (first_at p xs)) ≤ suc (length xs)
      go true l = omega arith
      go false l = omega arith

pub first_map : {A B : Type 0} (p : B → Bool) (f : A → B) (xs : List A) → first_at p (map f xs) ≡ first_at (λ x. p (f x)) xs
first_map p f [] = refl
first_map p f (x ∷ xs) = ap (λ k. cond (p (f x)) 0 (suc k)) (first_map p f xs)

-- two tests that agree on the members
pub first_agree : {A : Type 0} (p q : A → Bool) (d : A) (xs : List A) → ((i : ℕ) → i < length xs → p (get_or xs i d) ≡ q (get_or xs i d)) → first_at p xs ≡ first_at q xs
first_agree p q d [] h = refl
first_agree p q d (x ∷ xs) h = ap₂ (λ b k. cond b 0 (suc k)) (h 0 (omega arith)) (first_agree p q d xs λ i l. h (suc i) (omega arith))
