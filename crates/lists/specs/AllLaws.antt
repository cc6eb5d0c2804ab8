-- Laws of `all_of` and `any_of` over joined and mapped lists.
use Rattle.std.specs.Prelude.{◌≡◌, refl, List, [], ◌∷◌, ◌++◌, map, Bool, true, false, ◌&&◌, ◌||◌, ℕ, zero, suc, ◌<◌, eqb, length, get_or}
use Rattle.std.proofs.Common.{sym, ap, ap₂, subst, ◌∙◌, arith, eqb-true}
use Rattle.std.proofs.Math.Bool.{and_assoc, or_assoc, or-true}
use Rattle.lists.specs.Lists.{all_of, any_of, contains, concat_map, concat_map_from}
use Rattle.lists.specs.ListLaws.{and_first, and_second, all_append, all_at}

pub all_join : {A : Type 0} (p : A → Bool) (xs ys : List A) → all_of p (xs ++ ys) ≡ (all_of p xs && all_of p ys)
all_join p [] ys = refl
all_join p (x ∷ xs) ys = ap (λ b. p x && b) (all_join p xs ys) ∙ sym (and_assoc (p x) (all_of p xs) (all_of p ys))

pub all_concat_map : {A B : Type 0} (p : B → Bool) (f : A → List B) (xs : List A) → all_of p (concat_map f xs) ≡ all_of (λ x. all_of p (f x)) xs
all_concat_map p f [] = refl
all_concat_map p f (x ∷ xs) = all_join p (f x) (concat_map f xs) ∙ ap (λ b. all_of p (f x) && b) (all_concat_map p f xs)

-- a test of what f makes of each member, and a test of the members that says the same
pub all_map : {A B : Type 0} (p : B → Bool) (q : A → Bool) (f : A → B) → ((x : A) → p (f x) ≡ q x) → (xs : List A) →
    all_of p (map f xs) ≡ all_of q xs
all_map p q f h [] = refl
all_map p q f h (x ∷ xs) = ap₂ ◌&&◌ (h x) (all_map p q f h xs)

-- all pass that f makes of any member
pub all_each_from : {A B : Type 0} (p : B → Bool) (f : ℕ → A → List B) → ((i : ℕ) (x : A) → all_of p (f i x) ≡ true) →
    (k : ℕ) (xs : List A) → all_of p (concat_map_from k f xs) ≡ true
all_each_from p f h k [] = refl
all_each_from p f h k (x ∷ xs) = all_append p (f k x) (concat_map_from (suc k) f xs) (h k x) (all_each_from p f h (suc k) xs)

pub all_each : {A B : Type 0} (p : B → Bool) (f : A → List B) → ((x : A) → all_of p (f x) ≡ true) → (xs : List A) →
    all_of p (concat_map f xs) ≡ true
all_each p f h [] = refl
all_each p f h (x ∷ xs) = all_append p (f x) (concat_map f xs) (h x) (all_each p f h xs)

pub any_join : {A : Type 0} (p : A → Bool) (xs ys : List A) → any_of p (xs ++ ys) ≡ (any_of p xs || any_of p ys)
any_join p [] ys = refl
any_join p (x ∷ xs) ys = ap (λ b. p x || b) (any_join p xs ys) ∙ sym (or_assoc (p x) (any_of p xs) (any_of p ys))

-- two tests that say the same of members that pass a third
pub any_agree : {A : Type 0} (p q r : A → Bool) → ((x : A) → r x ≡ true → p x ≡ q x) → (xs : List A) → all_of r xs ≡ true →
    any_of p xs ≡ any_of q xs
any_agree p q r h [] k = refl
any_agree p q r h (x ∷ xs) k = ap₂ ◌||◌ (h x (and_first (r x) (all_of r xs) k)) (any_agree p q r h xs (and_second (r x) (all_of r xs) k))

-- where one of them passes
pub any_found : {A C : Type 0} (p : A → Bool) (d : A) (xs : List A) → any_of p xs ≡ true →
    ((i : ℕ) → i < length xs → p (get_or xs i d) ≡ true → C) → C
any_found p d [] h f = let z : ◌≡◌ {A = ℕ} 0 1 = cc in absurd (omega arith)
any_found {A} {C} p d (x ∷ xs) h f = go (p x) refl h (λ k. any_found p d xs k λ i l c. f (suc i) (omega arith) c)
  where
    go : (b : Bool) → p x ≡ b → (b || any_of p xs) ≡ true → (any_of p xs ≡ true → C) → C
    go true e k g = f 0 (omega arith) e
    go false e k g = g k

pub any_at : {A : Type 0} (p : A → Bool) (d : A) (xs : List A) (i : ℕ) → i < length xs → p (get_or xs i d) ≡ true → any_of p xs ≡ true
any_at p d [] i h k = absurd (omega arith)
any_at p d (x ∷ xs) zero h k = ap (λ (b : Bool). b || any_of p xs) k
any_at p d (x ∷ xs) (suc i) h k = ap (λ (b : Bool). p x || b) (any_at p d xs i (omega arith) k) ∙ or-true (p x)

-- what passes of all members passes of a number that is one of them
pub contained_passes : (p : ℕ → Bool) (xs : List ℕ) (x : ℕ) → all_of p xs ≡ true → contains xs x ≡ true → p x ≡ true
contained_passes p xs x h k = any_found (eqb x) 0 xs k λ i l e.
    subst (λ (y : ℕ). p y ≡ true) (sym (eqb-true x (get_or xs i 0) e)) (all_at p xs i 0 h l)
