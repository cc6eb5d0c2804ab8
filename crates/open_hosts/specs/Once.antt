-- As many places as numbers, and each number has a place: no number has two.
use Rattle.std.specs.Prelude.{ℕ, zero, suc, ◌-◌, ◌<◌, ◌≡◌, refl, Bool, cond, eqb}
use Rattle.std.proofs.Common.{sym, ap, ◌∙◌, arith, eq-eqb, ne_eqb}
use Rattle.std.proofs.Math.Decide.{ℕ_discrete}
use Rattle.sorting.specs.Merge.{Place}

-- the last of m places, put at place p
abbrev moved : (ℕ → ℕ) → ℕ → ℕ → ℕ → ℕ
moved G m p q = cond (eqb q p) (G (m - 1)) (G q)

-- a number that stands not only at p keeps a place
keeps : (G : ℕ → ℕ) (m p i q : ℕ) → p < m → q < m → (q ≡ p → ⊥) → G q ≡ i → Place (moved G m p) 0 (m - 1) i
keeps G m p i q h k d e = go (ℕ_discrete q (m - 1))
  where
    go : Dec (q ≡ m - 1) → Place (moved G m p) 0 (m - 1) i
    go (yes l) = record {
      at = p;
      from = omega arith;
      to = omega arith;
      is = ap (λ (b : Bool). cond b (G (m - 1)) (G p)) (eq-eqb p p refl) ∙ ap G (sym l) ∙ e;
    }
    go (no l) = record {
      at = q;
      from = omega arith;
      to = omega arith;
      is = ap (λ (b : Bool). cond b (G (m - 1)) (G q)) (ne_eqb q p d) ∙ e;
    }

no_room : (n m : ℕ) (G : ℕ → ℕ) → m < n → ((i : ℕ) → i < n → Place G 0 m i) → ⊥
no_room zero m G h f = absurd (omega arith)
no_room (suc n) m G h f =
    let w = f n (omega arith) in
    no_room n (m - 1) (moved G m w.at) (omega (arith, w.to)) λ i k.
    let v = f i (omega arith) in
    keeps G m w.at i v.at w.to v.to (λ e. let z : i ≡ n = sym v.is ∙ ap G e ∙ w.is in omega arith) v.is

pub once : (n : ℕ) (F : ℕ → ℕ) → ((i : ℕ) → i < n → Place F 0 n i) → (p q : ℕ) → p < q → q < n → F p ≡ F q → ⊥
once n F f p q h k e = no_room n (n - 1) (moved F n q) (omega arith) λ i l. go i (f i l) (ℕ_discrete (f i l).at q)
  where
    go : (i : ℕ) (w : Place F 0 n i) → Dec (w.at ≡ q) → Place (moved F n q) 0 (n - 1) i
    go i w (yes l) = keeps F n q i p k (omega arith) (omega arith) (e ∙ ap F (sym l) ∙ w.is)
    go i w (no l) = keeps F n q i w.at k w.to l w.is
