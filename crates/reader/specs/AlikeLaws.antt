-- Readers that end alike, whatever they make of what they read.
use Rattle.std.specs.Prelude.{ℕ, ◌+◌, ◌≡◌, refl}
use Rattle.std.proofs.Common.{arith}
use Rattle.reader.specs.Reader.{Got, broken, got, and_then}
use Rattle.reader.specs.Step.{step_of}

-- two and three words on
pub two_on : (at : ℕ) → (at + 1) + 1 ≡ at + 2
two_on at = omega arith

pub three_on : (at : ℕ) → ((at + 1) + 1) + 1 ≡ at + 3
three_on at = omega arith

pub ends_alike : {A B : Type 0} (a : A) (b : B) (q : ℕ) → step_of (got a q) ≡ step_of (got b q)
unfolding step_of
ends_alike a b q = refl

-- one reader, and then two that end alike
pub then_alike : {A B C : Type 0} (g : Got A) (k : A → ℕ → Got B) (l : A → ℕ → Got C) → ((a : A) (q : ℕ) → step_of (k a q) ≡ step_of (l a q)) →
    step_of (and_then g k) ≡ step_of (and_then g l)
unfolding step_of
then_alike broken k l h = refl
then_alike (got a q) k l h = h a q

-- the first readers of a row taken together
pub into_alike : {A B C D : Type 0} (g : Got A) (k : A → ℕ → Got B) (f : A → ℕ → Got C) (l : C → ℕ → Got D) →
    ((a : A) (q : ℕ) → step_of (k a q) ≡ step_of (and_then (f a q) l)) → step_of (and_then g k) ≡ step_of (and_then (and_then g f) l)
unfolding step_of
into_alike broken k f l h = refl
into_alike (got a q) k f l h = h a q

-- a reader that keeps its position instead of its value
pub pos_alike : {A B C : Type 0} (p : ℕ) (g : Got A) (f : ℕ → ℕ → Got B) (k : A → ℕ → Got C) → ((a : A) (q : ℕ) → step_of (f p q) ≡ step_of (k a q)) →
    step_of (and_then (and_then g (λ a q. got p q)) f) ≡ step_of (and_then g k)
unfolding step_of
pos_alike p broken f k h = refl
pos_alike p (got a q) f k h = h a q
