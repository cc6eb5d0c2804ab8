-- What `best` finds in a list of numbers.
use Rattle.std.specs.Prelude.{ℕ, ◌+◌, ◌≤◌, ◌≡◌, List, [], ◌∷◌, Bool, true, false, cond, eqb, ltb, Option, None, Some}
use Rattle.std.proofs.Math.Path.{refl}
use Rattle.std.proofs.Common.{ap, ◌∙◌, arith, ltb-true, ltb-false, le-ltb}
use Rattle.std.proofs.Math.Decide.{ℕ_discrete}
use Rattle.lists.specs.Best.{winner, best}
use Rattle.law_counting.specs.Counting.{tick, count, tick_is, tick_not}

-- what makes the best member one that none beats
pub record Ranks (beats : ℕ → ℕ → Bool) : Type 0 where
  pub itself : (x : ℕ) → beats x x ≡ false
  pub back : (x y : ℕ) → beats x y ≡ true → beats y x ≡ false
  pub along : (x y z : ℕ) → beats x y ≡ false → beats y z ≡ false → beats x z ≡ false

-- the lower of a measure beats
pub by_least : (f : ℕ → ℕ) → Ranks (λ x y. ltb (f x) (f y))
by_least f = record {
  itself = λ x. le-ltb (f x) (f x) (omega arith);
  back = λ x y e. le-ltb (f y) (f x) (omega (arith, ltb-true (f x) (f y) e));
  along = λ x y z a b. le-ltb (f x) (f z) (omega (arith, ltb-false (f x) (f y) a, ltb-false (f y) (f z) b));
}

-- or the higher
pub by_most : (f : ℕ → ℕ) → Ranks (λ x y. ltb (f y) (f x))
by_most f = record {
  itself = λ x. le-ltb (f x) (f x) (omega arith);
  back = λ x y e. le-ltb (f x) (f y) (omega (arith, ltb-true (f y) (f x) e));
  along = λ x y z a b. le-ltb (f z) (f x) (omega (arith, ltb-false (f y) (f x) a, ltb-false (f z) (f y) b));
}

-- none where there is no member; else a member that no member beats
unfoldable pub IsBest : (ℕ → ℕ → Bool) → List ℕ → Option ℕ → Type 0
IsBest beats l None = (x : ℕ) → count x l ≡ 0
IsBest beats l (Some f) = (1 ≤ count f l) × ((x : ℕ) → 1 ≤ count x l → beats x f ≡ false)

-- a member is the first or among the rest
in_either : (z x : ℕ) (l : List ℕ) {C : Type 0} → 1 ≤ tick (eqb z x) + count z l → (z ≡ x → C) → (1 ≤ count z l → C) → C
in_either z x l {C} k f g = go (ℕ_discrete z x)
  where
    go : Dec (z ≡ x) → C
    go (yes q) = f q
    go (no q) = g (omega (arith, tick_not z x q))

best_step : (beats : ℕ → ℕ → Bool) → Ranks beats → (x : ℕ) (l : List ℕ) (o : Option ℕ) → IsBest beats l o →
    IsBest beats (x ∷ l) (Some (winner beats x o))
unfolding IsBest winner
best_step beats r x l None h = (
  omega (arith, tick_is x x refl),
  λ z k. in_either z x l k (λ q. ap (λ y. beats y x) q ∙ r.itself x) (λ j. absurd (omega (arith, h z))),
)
best_step beats r x l (Some y) h = go (beats y x) refl
  where
    go : (b : Bool) → beats y x ≡ b → (1 ≤ count (cond b y x) (x ∷ l)) × ((z : ℕ) → 1 ≤ count z (x ∷ l) → beats z (cond b y x) ≡ false)
    go true e = (
      omega (arith, h.0),
      λ z k. in_either z x l k (λ q. ap (λ w. beats w y) q ∙ r.back y x e) (λ j. h.1 z j),
    )
    go false e = (
      omega (arith, tick_is x x refl),
      λ z k. in_either z x l k (λ q. ap (λ w. beats w x) q ∙ r.itself x) (λ j. r.along z y x (h.1 z j) e),
    )

pub best_is : (beats : ℕ → ℕ → Bool) → Ranks beats → (l : List ℕ) → IsBest beats l (best beats l)
unfolding best
best_is beats r [] = unfold IsBest in λ x. refl
best_is beats r (x ∷ l) = best_step beats r x l (best beats l) (best_is beats r l)
