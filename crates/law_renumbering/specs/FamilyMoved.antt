-- Families and chains under a renumbering.
use Rattle.std.specs.Prelude.{◌≡◌, ◌↔◌, T}
use Rattle.std.proofs.Math.Path.{refl, sym, ap, ap₂}
use Rattle.std.proofs.Common.{◌∙◌, subst, subst₂, arith}
use Rattle.std.proofs.Math.Bool.{cond}
use mathlib.Core.List.{List, []}
use Prim.Native.Nat.{ℕ, zero, suc}
use Rattle.std.proofs.Math.ListN.{length}
use Rattle.sheet.specs.Module.{TypeDef}
use Rattle.parents.specs.Forest.{Entry, other, root, sub, entry_at, parents, walk, chain, chain_length}
use Rattle.spans.specs.Spans.{Reaches, here, up, Descendant}
use Rattle.families.specs.Families.{family_depth}
use Rattle.law_forest.specs.Chain.{kind, chain_up, chain_stop}
use Rattle.law_renumbering.specs.Images.{rename}
use Rattle.law_renumbering.specs.CanonMoved.{Moved, struct_moved}
use Rattle.law_renumbering.specs.Setting.{entry_moved}

module _ {types types' : List TypeDef} {π ρ : ℕ → ℕ} (w : Moved types types' π ρ) where
  reaches_there : {t a : ℕ} → Reaches types t a → Reaches types' (π t) (π a)
  reaches_there (here q) = here (ap π q)
  reaches_there (up {t} {p} h c) = up (entry_moved w t ∙ ap (rename π) h) (reaches_there c)

  entry_back : (t p : ℕ) → entry_at types' t ≡ sub p → entry_at types (ρ t) ≡ sub (ρ p)
  entry_back t p h = go (entry_at types (ρ t)) (sym (entry_moved w (ρ t)) ∙ ap (entry_at types') (w.bijection.forth t) ∙ h)
    where
      go : (e : Entry) → rename π e ≡ sub p → e ≡ sub (ρ p)
      go other q = let z : ◌≡◌ {A = ℕ} 0 1 = cc in absurd (omega arith)
      go root q = let z : ◌≡◌ {A = ℕ} 0 1 = cc in absurd (omega arith)
      go (sub x) q = let z : π x ≡ p = cc in ap sub (sym (w.bijection.back x) ∙ ap ρ z)

  reaches_back : {t a : ℕ} → Reaches types' t a → Reaches types (ρ t) (ρ a)
  reaches_back (here q) = here (ap ρ q)
  reaches_back (up {t} {p} h c) = up (entry_back t p h) (reaches_back c)

  -- a chain is as long
  pub chain_moved : (f t : ℕ) → length (chain types f t) ≡ length (chain types' f (π t))
  unfolding parents chain walk
  chain_moved zero t = refl
  chain_moved (suc f) t = kind types t (length (chain types (suc f) t) ≡ length (chain types' (suc f) (π t)))
      (λ k. stops (ap parents k) (ap parents (entry_moved w t ∙ ap (rename π) k)))
      (λ k. stops (ap parents k) (ap parents (entry_moved w t ∙ ap (rename π) k)))
      (λ p k.
      ap length (chain_up types f t p k)
      ∙ ap suc (chain_moved f p)
      ∙ sym (ap length (chain_up types' f (π t) (π p) (entry_moved w t ∙ ap (rename π) k))))
    where
      stops : parents (entry_at types t) ≡ [] → parents (entry_at types' (π t)) ≡ [] →
          length (chain types (suc f) t) ≡ length (chain types' (suc f) (π t))
      stops a b = ap length (chain_stop types f t a) ∙ sym (ap length (chain_stop types' f (π t) b))

  pub depth_moved : (most t : ℕ) → family_depth most types t ≡ family_depth most types' (π t)
  unfolding family_depth chain_length
  depth_moved most t = ap₂ (λ b n. cond b n 0) (sym (struct_moved w t)) (chain_moved most t)

  pub reaches_moved : (t a : ℕ) → Reaches types t a ↔ Reaches types' (π t) (π a)
  reaches_moved t a = (reaches_there, λ c. subst₂ (Reaches types) (w.bijection.back t) (w.bijection.back a) (reaches_back c))

  pub descendant_moved : (t a : ℕ) → Descendant types t a ↔ Descendant types' (π t) (π a)
  descendant_moved t a = (
    λ h. record {
      below = subst T (sym (struct_moved w t)) h.below;
      above = subst T (sym (struct_moved w a)) h.above;
      reaches = (reaches_moved t a).0 h.reaches;
    },
    λ h. record {
      below = subst T (struct_moved w t) h.below;
      above = subst T (struct_moved w a) h.above;
      reaches = (reaches_moved t a).1 h.reaches;
    },
  )
