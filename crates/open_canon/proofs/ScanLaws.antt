-- The sorted order of all items: where a content first stands, its least number stands.
use Rattle.std.specs.Prelude.{◌≡◌, refl, true, false, List, ℕ, ◌-◌, ◌<◌}
use Rattle.std.proofs.Common.{sym, ap, ◌∙◌, arith}
use Rattle.std.proofs.Math.Decide.{dec_lt}
use Rattle.std.specs.Ordering.{is_eq}
use Rattle.std.specs.declared.cmp.Ordering.{Ordering}
use Rattle.std.specs.declared.cmp.Ordering.TheVariants.{Less, Equal, Greater}
use Rattle.sorting.specs.Items.{item}
use Rattle.sorting.specs.Order.{lex}
use Rattle.sorting.specs.Lex.{before_lower, before_irr, before_between, lex_refl, lex_same}
use Rattle.sorting.specs.Merge.{Place}
use Rattle.sorting.specs.Contract.{Ordered}
use Rattle.open_canon.specs.Least.{First}

module _ (ws S : List ℕ) (n : ℕ) (F : ℕ → ℕ) (o : Ordered ws S n F) where
  -- a content that the place before does not have
  pub first_new : (p : ℕ) → p < n → (0 < p → item ws S (F (p - 1)) ≡ item ws S (F p) → ⊥) → First ws S n (F p) (F p)
  first_new p h new = record {
    in_range_lem = o.below p h;
    alike = refl;
    least = λ k b e. go k b e (o.all k (omega (arith, o.below p h)));
  }
    where
      go : (k : ℕ) → k < F p → item ws S k ≡ item ws S (F p) → Place F 0 n k → ⊥
      go k b e w = case (dec_lt w.at p)
        where
          case : Dec (w.at < p) → ⊥
          case (yes t) = new (omega arith)
              (sym (before_between ws S k (F (p - 1)) (F p) e
              (rw (← w.is) (o.sorted w.at (p - 1) (omega arith) (omega arith) (omega arith)))
              (o.sorted (p - 1) p (omega arith) (omega arith) h)) ∙ e)
          case (no t) = omega (
            arith,
            before_irr ws S k (F p) (before_lower ws S k (F p) e (omega arith))
                (rw (← w.is) (o.sorted p w.at (omega arith) (omega arith) w.to)),
          )

  -- the content of the place before
  pub first_same : (u v h : ℕ) → item ws S u ≡ item ws S v → First ws S n u h → First ws S n v h
  first_same u v h e f = record {
    in_range_lem = f.in_range_lem;
    alike = f.alike ∙ e;
    least = λ k b q. f.least k b (q ∙ sym e);
  }

  -- u and v are the numbers at the place before and at p, as read, and their contents are compared
  pub head_new : (p u v : ℕ) → p < n → u ≡ F (p - 1) → v ≡ F p → (lex (item ws S u) (item ws S v) ≡ Equal → ⊥) → First ws S n (F p) v
  head_new p u v h eu ev d = rw ev (first_new p h λ z e. d (rw (eu, ev, e) (lex_refl (item ws S (F p)))))

  pub head_same : (p u v h : ℕ) → u ≡ F (p - 1) → v ≡ F p → lex (item ws S u) (item ws S v) ≡ Equal → First ws S n (F (p - 1)) h →
      First ws S n (F p) h
  head_same p u v h eu ev e f = first_same (F (p - 1)) (F p) h (rw (← eu, ← ev) (lex_same (item ws S u) (item ws S v) e)) f

-- what `is_eq` says of the order that was found
pub equal_if : (r x : Ordering) → r ≡ x → true ≡ is_eq r → x ≡ Equal
equal_if Less x a t = let z : ◌≡◌ {A = ℕ} 0 1 = cc in absurd (omega arith)
equal_if Equal x a t = sym a
equal_if Greater x a t = let z : ◌≡◌ {A = ℕ} 0 1 = cc in absurd (omega arith)

pub apart_if : (r x : Ordering) → r ≡ x → false ≡ is_eq r → x ≡ Equal → ⊥
apart_if r x a t e = let u : false ≡ true = t ∙ ap is_eq (a ∙ e) in let z : ◌≡◌ {A = ℕ} 0 1 = cc in omega arith

-- contents that are apart are not the same
pub less_apart : (r x : Ordering) → r ≡ x → r ≡ Less → x ≡ Equal → ⊥
less_apart r x a b e = let z : ◌≡◌ {A = ℕ} 0 1 = cc in omega arith

pub more_apart : (r x : Ordering) → r ≡ x → r ≡ Greater → x ≡ Equal → ⊥
more_apart r x a b e = let z : ◌≡◌ {A = ℕ} 0 1 = cc in omega arith
