-- The front of a list, word by word.
use Rattle.std.specs.Prelude.{ℕ, zero, suc, ◌≤◌, ◌<◌, ◌≡◌, refl, List, [], ◌∷◌, Bool, true, false, ◌&&◌, eqb, length, get_or, drop}
use Rattle.std.proofs.Common.{ap, ◌∙◌, arith, eq-eqb, ne_eqb}
use Rattle.lists.specs.Lists.{is_front}

pub and_false : (b : Bool) → (b && false) ≡ false
and_false true = refl
and_false false = refl

-- a longer list is no front
pub front_long : (xs ys : List ℕ) → length ys < length xs → is_front xs ys ≡ false
front_long [] ys h = absurd (omega arith)
front_long (x ∷ xs) [] h = refl
front_long (x ∷ xs) (y ∷ ys) h = ap (λ b. eqb x y && b) (front_long xs ys (omega arith)) ∙ and_false (eqb x y)

pub front_next : (xs ys : List ℕ) (i : ℕ) → i < length xs → i < length ys → get_or xs i 0 ≡ get_or ys i 0 → is_front (drop i xs) (drop i ys) ≡ is_front (drop (suc i) xs) (drop (suc i) ys)
front_next [] ys i h k e = absurd (omega arith)
front_next (x ∷ xs) [] i h k e = absurd (omega arith)
front_next (x ∷ xs) (y ∷ ys) zero h k e = ap (λ b. b && is_front xs ys) (eq-eqb x y e)
front_next (x ∷ xs) (y ∷ ys) (suc i) h k e = front_next xs ys i (omega arith) (omega arith) e

pub front_differs : (xs ys : List ℕ) (i : ℕ) → i < length xs → i < length ys → (get_or xs i 0 ≡ get_or ys i 0 → ⊥) → is_front (drop i xs) (drop i ys) ≡ false
front_differs [] ys i h k e = absurd (omega arith)
front_differs (x ∷ xs) [] i h k e = absurd (omega arith)
front_differs (x ∷ xs) (y ∷ ys) zero h k e = ap (λ b. b && is_front xs ys) (ne_eqb x y e)
front_differs (x ∷ xs) (y ∷ ys) (suc i) h k e = front_differs xs ys i (omega arith) (omega arith) e

-- all words of the first were met
pub front_end : (xs ys : List ℕ) (i : ℕ) → length xs ≤ i → is_front (drop i xs) (drop i ys) ≡ true
front_end [] ys zero h = refl
front_end [] ys (suc i) h = refl
front_end (x ∷ xs) ys zero h = absurd (omega arith)
front_end (x ∷ xs) [] (suc i) h = go xs i (omega arith)
  where
    go : (xs : List ℕ) (i : ℕ) → length xs ≤ i → is_front (drop i xs) [] ≡ true
    go [] zero h = refl
    go [] (suc i) h = refl
    go (x ∷ xs) zero h = absurd (omega arith)
    go (x ∷ xs) (suc i) h = go xs i (omega arith)
front_end (x ∷ xs) (y ∷ ys) (suc i) h = front_end xs ys i (omega arith)
