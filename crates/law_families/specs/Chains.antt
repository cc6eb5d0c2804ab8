-- Chains by declared parents: how long they are, and where they end.
use Prim.Native.Nat.{ℕ, zero, suc, ◌+◌, ◌<◌}
use Rattle.std.specs.Prelude.{◌≡◌, ◌⊎◌, List}
use Rattle.std.proofs.Math.Path.{refl, ap}
use Rattle.std.proofs.Common.{sym, ◌∙◌, subst, inl, inr, arith}
use Rattle.std.proofs.Math.Dec.{T}
use Rattle.sheet.specs.Module.{TypeDef}
use Rattle.parents.specs.Forest.{root, sub, entry_at, parents, walk, chain, chain_length}
use Rattle.spans.specs.Spans.{Reaches, here, up}
use Rattle.law_forest.specs.Entries.{is_struct_entry, ends}
use Rattle.law_forest.specs.Chain.{kind, chain_stop, ends_up, ends_zero, ends_other, ends_struct, steps}
use Rattle.law_forest.specs.Once.{ChainRule}
use Rattle.law_forest.specs.Lengths.{chain_child, length_child}
use Rattle.families.specs.Families.{last_of, root_of}

-- ── who reaches whom ──

pub reach_through : (types : List TypeDef) {t a b : ℕ} → Reaches types t a → Reaches types a b → Reaches types t b
reach_through types {t} {a} {b} (here q) s = subst (λ x. Reaches types x b) (sym q) s
reach_through types (up k r) s = up k (reach_through types r s)

same_parent : {p q : ℕ} → sub p ≡ sub q → p ≡ q
same_parent e = cc

-- two that one reaches are on one line
pub reach_line : (types : List TypeDef) {t a b : ℕ} → Reaches types t a → Reaches types t b → Reaches types a b ⊎ Reaches types b a
reach_line types {t} {a} {b} (here q) s = inl (subst (λ x. Reaches types x b) q s)
reach_line types {t} {a} {b} (up k r) (here q) = inr (subst (λ x. Reaches types x a) q (up k r))
reach_line types {t} {a} {b} (up k r) (up j s) = reach_line types r (subst (λ x. Reaches types x b) (same_parent (sym j ∙ k)) s)

module _ (most : ℕ) (types : List TypeDef) (rule : ChainRule most types) where
  -- a parent is a struct
  pub parent_struct : (t p : ℕ) → entry_at types t ≡ sub p → T (is_struct_entry (entry_at types p))
  parent_struct t p k = go most (rule.short t (rw k tt))
    where
      go : (f : ℕ) → T (ends types f t) → T (is_struct_entry (entry_at types p))
      go zero h = absurd (ends_zero types t h)
      go (suc f) h = ends_struct types f p (rw (ends_up types f t p k) at h)

  pub reach_struct : {t a : ℕ} → Reaches types t a → T (is_struct_entry (entry_at types t)) → T (is_struct_entry (entry_at types a))
  reach_struct (here q) s = rw (← q) s
  reach_struct (up {t} {p} k r) s = reach_struct r (parent_struct t p k)

  -- ── how long ──

  -- so many steps up, so much shorter
  length_steps : {t a : ℕ} (r : Reaches types t a) → chain_length most types t ≡ steps r + chain_length most types a
  length_steps (here {t} {a} q) = ap (chain_length most types) q ∙ omega arith
  length_steps (up {t} {p} k r) = length_child most types rule t p k ∙ omega (arith, length_steps r)

  no_steps : {t a : ℕ} (r : Reaches types t a) → steps r ≡ 0 → t ≡ a
  no_steps (here q) e = q
  no_steps (up k r) e = absurd (omega (arith, e))

  pub reach_longer : {t a : ℕ} → Reaches types t a → (t ≡ a → ⊥) → chain_length most types a < chain_length most types t
  reach_longer {t} {a} r n = go (steps r) refl
    where
      go : (k : ℕ) → steps r ≡ k → chain_length most types a < chain_length most types t
      go zero e = absurd (n (no_steps r e))
      go (suc k) e = omega (arith, length_steps r, e)

  pub reach_same : {t a : ℕ} → Reaches types t a → Reaches types a t → t ≡ a
  reach_same {t} {a} r s = no_steps r (omega (arith, length_steps r, length_steps s))

  -- ── where they end ──

  chain_first : (f x p : ℕ) → T (ends types f p) → last_of x (chain types f p) ≡ last_of p (chain types f p)
  unfolding last_of chain walk
  chain_first zero x p h = absurd (ends_zero types p h)
  chain_first (suc f) x p h = refl

  root_root : (t : ℕ) → entry_at types t ≡ root → root_of most types t ≡ t
  unfolding root_of last_of parents
  root_root t k = go most (rule.short t (rw k tt))
    where
      go : (f : ℕ) → T (ends types f t) → last_of t (chain types f t) ≡ t
      go zero h = absurd (ends_zero types t h)
      go (suc f) h = ap (last_of t) (chain_stop types f t (ap parents k))

  root_child : (t p : ℕ) → entry_at types t ≡ sub p → root_of most types t ≡ root_of most types p
  unfolding root_of last_of
  root_child t p k = ap (last_of t) (chain_child most types rule t p k) ∙ chain_first most t p (rule.short p (parent_struct t p k))

  pub reach_root : {t a : ℕ} → Reaches types t a → root_of most types t ≡ root_of most types a
  reach_root (here q) = ap (root_of most types) q
  reach_root (up {t} {p} k r) = root_child t p k ∙ reach_root r

  pub root_reached : (t : ℕ) → T (is_struct_entry (entry_at types t)) → Reaches types t (root_of most types t)
  root_reached t s = go most t (rule.short t s)
    where
      go : (f t : ℕ) → T (ends types f t) → Reaches types t (root_of most types t)
      go zero t h = absurd (ends_zero types t h)
      go (suc f) t h = kind types t (Reaches types t (root_of most types t))
          (λ k. absurd (rw (ends_other types f t k) at h))
          (λ k. here (sym (root_root t k)))
          (λ p k. up k (subst (λ x. Reaches types p x) (sym (root_child t p k)) (go f p (rw (ends_up types f t p k) at h))))
