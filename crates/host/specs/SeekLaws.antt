-- For a caller of lookup.
use Rattle.std.specs.Prelude.{ℕ, List, Bool, Option, None, Some}
use Rattle.std.proofs.Math.Path.{◌≡◌, refl}
use Rattle.std.proofs.Common.{sym, ap, ◌∙◌, arith}
use Rattle.std.proofs.Math.Bool.{true, false, cond}
use Rattle.host.specs.Host.{HostFn, lookup, resolved, is_scheduler}
use Rattle.host.specs.Listed.{found_at, found}

resolve : {C : Type 0} (b : Bool) (hs : List HostFn) (j : ℕ) {i : ℕ} {x : Bool} →
    cond {A = Option (ℕ × Bool)} b (Some (j, is_scheduler hs j)) None ≡ Some (i, x) →
    (b ≡ true → j ≡ i → is_scheduler hs j ≡ x → C) → C
resolve true hs j {i} {x} e k =
    let same : ◌≡◌ {A = ℕ × Bool} (j, is_scheduler hs j) (i, x) = cc in
    k refl (ap (λ (p : ℕ × Bool). p.0) same) (ap (λ (p : ℕ × Bool). p.1) same)
resolve false hs j e k = let z : ◌≡◌ {A = ℕ} 0 1 = cc in absurd (omega arith)

module _ (hs : List HostFn) (m n : List ℕ) {r : Option (ℕ × Bool)} (f : r ≡ found hs m n) where
  -- the place, that it is in the list, and what stands there
  pub found_place : (i : ℕ) (x : Bool) → r ≡ Some (i, x) → lookup hs m n ≡ i
  unfolding found found_at
  found_place i x e = resolve (resolved hs (lookup hs m n)) hs (lookup hs m n) (sym f ∙ e) λ t p k. p

  pub found_resolved : (i : ℕ) (x : Bool) → r ≡ Some (i, x) → resolved hs (lookup hs m n) ≡ true
  unfolding found found_at
  found_resolved i x e = resolve (resolved hs (lookup hs m n)) hs (lookup hs m n) (sym f ∙ e) λ t p k. t

  pub found_scheduler : (i : ℕ) (x : Bool) → r ≡ Some (i, x) → is_scheduler hs (lookup hs m n) ≡ x
  unfolding found found_at
  found_scheduler i x e = resolve (resolved hs (lookup hs m n)) hs (lookup hs m n) (sym f ∙ e) λ t p k. k

  pub found_none : r ≡ None → resolved hs (lookup hs m n) ≡ false
  unfolding found found_at
  found_none e = go (resolved hs (lookup hs m n)) (sym f ∙ e)
    where
      go : (b : Bool) → cond {A = Option (ℕ × Bool)} b (Some (lookup hs m n, is_scheduler hs (lookup hs m n))) None ≡ None → b ≡ false
      go true e = let z : ◌≡◌ {A = ℕ} 0 1 = cc in absurd (omega arith)
      go false e = refl
