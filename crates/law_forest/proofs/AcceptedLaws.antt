-- A module that keeps rule 3: the walk enters each struct, and the spans answer the family question.
use Rattle.std.specs.Prelude.{◌≡◌, refl, ◌↔◌, Bool, true, false, ◌||◌, not, List, [], ◌∷◌, ℕ, zero, suc, ◌+◌, ◌≤◌, T, eqb, length}
use Rattle.std.proofs.Common.{arith, leb→le}
use Rattle.lists.specs.Lists.{concat_map_from, contains}
use Rattle.law_counting.specs.Counting.{tick, count}
use Rattle.law_faults.specs.Empty.{map_empty, unless_empty, every_from}
use Rattle.error.specs.declared.LoadErrorKind.{LoadErrorKind}
use Rattle.error.specs.declared.LoadErrorKind.TheVariants.{MissedStruct}
use Rattle.error.specs.Answer.{in_module}
use Rattle.sheet.specs.Module.{TypeDef, coroutine, Module, type_at, is_struct}
use Rattle.parents.specs.Forest.{root, entry_at, chain}
use Rattle.parents.specs.Parents.{short_chain, parents_faults}
use Rattle.spans.specs.Spans.{order, missed_faults, walk_faults, descends_by_span, Reaches, post}
use Rattle.law_forest.specs.Entries.{ends, struct_at}
use Rattle.law_forest.specs.Chain.{kind, ends_root}
use Rattle.law_forest.specs.Once.{ChainRule}
use Rattle.law_forest.specs.Family.{struct_once, family_test, post_in}
use Rattle.law_forest.specs.Accepted.{chain_ends, children_kept}

pub chain_rule : (most : ℕ) → 1 ≤ most → (m : Module) → parents_faults most m ≡ [] → ChainRule most m.types
unfolding short_chain
chain_rule most one m e = record {
  short = λ t s. kind m.types t (T (ends m.types most t))
      (λ k. absurd (rw k at s))
      (λ k. go most t one k)
      (λ p k. chain_ends m.types (λ t p k. (children_kept most m e t p k).struct) most t s
      (leb→le (length (chain m.types (suc most) t)) most (children_kept most m e t p k).short));
}
  where
    go : (f t : ℕ) → 1 ≤ f → entry_at m.types t ≡ root → T (ends m.types f t)
    go zero t h k = absurd (omega arith)
    go (suc f) t h k = rw (ends_root m.types f t k) tt

-- ── kind 26 does not happen ──

contains_count : (x : ℕ) (l : List ℕ) → 1 ≤ count x l → T (contains l x)
contains_count x [] h = absurd (omega arith)
contains_count x (y ∷ l) h = go (eqb x y) h (contains_count x l)
  where
    go : (b : Bool) → 1 ≤ tick b + count x l → (1 ≤ count x l → T (contains l x)) → T (b || contains l x)
    go true h ih = tt
    go false h ih = ih (omega arith)

pub walk_complete : (most : ℕ) → 1 ≤ most → (m : Module) → parents_faults most m ≡ [] → walk_faults most m ≡ []
unfolding walk_faults missed_faults type_at
walk_complete most one m e =
    (map_empty in_module (concat_map_from 0 f types)).1 ((every_from coroutine f types).1 (λ t h. (unless_empty (not (is_struct (type_at types t)) || contains (order most types) t) MissedStruct).1 (go t (is_struct (type_at types t)) refl)))
  where
    types : List TypeDef
    types = m.types

    f : ℕ → TypeDef → List LoadErrorKind
    f = missed_faults (order most types)

    go : (t : ℕ) (b : Bool) → is_struct (type_at types t) ≡ b → T (not b || contains (order most types) t)
    go t true k = contains_count t (order most types)
        (omega (arith, struct_once most types (chain_rule most one m e) t (rw (struct_at types t, k) tt)))
    go t false k = tt

-- ── families ──

-- THE FAMILY THEOREM: the spans say yes just where both are structs and declared parents lead from t to a
pub families : (most : ℕ) → 1 ≤ most → (m : Module) → parents_faults most m ≡ [] → (t a : ℕ) →
    T (descends_by_span most m.types t a) ↔ (T (is_struct (type_at m.types t)) × T (is_struct (type_at m.types a)) × Reaches m.types t a)
families most one m e t a = family_test most m.types (chain_rule most one m e) t a

pub span_fits : (most : ℕ) → 1 ≤ most → (m : Module) → parents_faults most m ≡ [] → (t : ℕ) → T (is_struct (type_at m.types t)) → post most m.types t ≤ length m.types
span_fits most one m e t s = post_in most m.types (chain_rule most one m e) t (rw (struct_at m.types t) s)
