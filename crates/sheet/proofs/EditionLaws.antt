-- The limits of the editions are from 1 up, so whatever holds for such limits holds for both.
use Rattle.std.specs.Prelude.{ℕ, ◌≤◌, ◌<◌, ◌≡◌, Bool, true, false, cond, eqb}
use Rattle.std.proofs.Common.{sym, ap, arith, eq-eqb, ne_eqb}
use Rattle.sheet.specs.Editions.{most_on_chain}

between : (b : Bool) → (1 ≤ cond b 64 256) × (cond b 64 256 ≤ 256)
between true = (omega arith, omega arith)
between false = (omega arith, omega arith)

pub most_from_one : (e : ℕ) → 1 ≤ most_on_chain e
unfolding most_on_chain
most_from_one e = (between (eqb e 2)).0

-- what code finds leaves room for one more
pub most_small : (e : ℕ) {most : ℕ} → most ≡ most_on_chain e → most < 4294967295
unfolding most_on_chain
most_small e h = omega (arith, (between (eqb e 2)).1)

pub most_second : {e : ℕ} → e ≡ 2 → 64 ≡ most_on_chain e
unfolding most_on_chain
most_second {e} h = sym (ap (λ (b : Bool). cond b 64 256) (eq-eqb e 2 h))

pub most_first : {e : ℕ} → (e ≡ 2 → ⊥) → 256 ≡ most_on_chain e
unfolding most_on_chain
most_first {e} h = sym (ap (λ (b : Bool). cond b 64 256) (ne_eqb e 2 h))
