-- Chain lengths: 1 at a root, the parent's + 1 elsewhere.
use Prim.Native.Nat.{ℕ, zero, suc, ◌≤◌}
use Rattle.std.specs.Prelude.{◌≡◌, List, ◌∷◌}
use Rattle.std.proofs.Common.{sym, ◌∙◌, arith}
use Rattle.std.proofs.Math.Path.{ap}
use Rattle.std.proofs.Math.Dec.{T}
use Rattle.std.proofs.Math.ListN.{length}
use Rattle.sheet.specs.Module.{TypeDef}
use Rattle.law_counting.specs.Counting.{count}
use Rattle.parents.specs.Forest.{root, sub, entry_at, parents, chain, chain_length}
use Rattle.spans.specs.Spans.{is_root, roots}
use Rattle.law_forest.specs.Entries.{is_struct_entry, ends}
use Rattle.law_forest.specs.Chain.{kind, chain_up, chain_stop, ends_up, ends_zero, ends_other}
use Rattle.law_forest.specs.Once.{ChainRule, count_roots}

-- a chain that ends stays as it is with more room
chain_more : (types : List TypeDef) (f t : ℕ) → T (ends types f t) → chain types f t ≡ chain types (suc f) t
unfolding parents
chain_more types zero t h = absurd (ends_zero types t h)
chain_more types (suc f) t h = kind types t (chain types (suc f) t ≡ chain types (suc (suc f)) t)
    (λ k. absurd (rw (ends_other types f t k) at h))
    (λ k. chain_stop types f t (ap parents k) ∙ sym (chain_stop types (suc f) t (ap parents k)))
    (λ p k.
    chain_up types f t p k
    ∙ ap (λ l. t ∷ l) (chain_more types f p (rw (ends_up types f t p k) at h))
    ∙ sym (chain_up types (suc f) t p k))

module _ (most : ℕ) (types : List TypeDef) (rule : ChainRule most types) where
  -- the chain from a child is the child and the chain from its parent
  pub chain_child : (t p : ℕ) → entry_at types t ≡ sub p → chain types most t ≡ t ∷ chain types most p
  chain_child t p k = go most (rule.short t (rw k tt))
    where
      go : (f : ℕ) → T (ends types f t) → chain types f t ≡ t ∷ chain types f p
      go zero h = absurd (ends_zero types t h)
      go (suc f) h = chain_up types f t p k ∙ ap (λ l. t ∷ l) (chain_more types f p (rw (ends_up types f t p k) at h))

  pub length_root : (t : ℕ) → entry_at types t ≡ root → chain_length most types t ≡ 1
  unfolding chain_length parents
  length_root t k = go most (rule.short t (rw k tt))
    where
      go : (f : ℕ) → T (ends types f t) → length (chain types f t) ≡ 1
      go zero h = absurd (ends_zero types t h)
      go (suc f) h = rw (chain_stop types f t (ap parents k))

  pub length_child : (t p : ℕ) → entry_at types t ≡ sub p → chain_length most types t ≡ suc (chain_length most types p)
  unfolding chain_length
  length_child t p k = ap length (chain_child t p k)

  pub length_roots : (t : ℕ) → 1 ≤ count t (roots types) → chain_length most types t ≡ 1
  unfolding is_root
  length_roots t h = kind types t (chain_length most types t ≡ 1)
      (λ k. absurd (omega (arith, rw (count_roots most types t, k) at h)))
      (λ k. length_root t k)
      (λ p k. absurd (omega (arith, rw (count_roots most types t, k) at h)))

  -- a struct is on its own chain
  pub length_some : (t : ℕ) → T (is_struct_entry (entry_at types t)) → 1 ≤ chain_length most types t
  length_some t s = kind types t (1 ≤ chain_length most types t)
      (λ k. absurd (rw k at s))
      (λ k. omega (arith, length_root t k))
      (λ p k. omega (arith, length_child t p k))
