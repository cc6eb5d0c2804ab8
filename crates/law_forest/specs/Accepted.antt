-- A module that keeps rule 3: its chains end, the walk enters each struct, and the spans answer the family question.
use Rattle.std.specs.Prelude.{◌≡◌, List, [], ◌++◌, ℕ, zero, suc, ◌+◌, ◌≤◌, ◌<◌, T, length}
use Rattle.std.proofs.Common.{sym, ap, ◌∙◌, arith}
use Rattle.std.proofs.Math.Decide.{dec_lt}
use Rattle.lists.specs.Lists.{concat_map_from}
use Rattle.law_faults.specs.Empty.{append_empty, map_empty, unless_empty, every_from}
use Rattle.error.specs.declared.LoadErrorKind.{LoadErrorKind}
use Rattle.error.specs.declared.LoadErrorKind.TheVariants.{BadParent, InheritanceTooDeep}
use Rattle.error.specs.Answer.{in_module, unless}
use Rattle.sheet.specs.Module.{TypeDef, coroutine, Module, type_at, is_struct}
use Rattle.parents.specs.Forest.{other, sub, entry, entry_at, chain, walk}
use Rattle.parents.specs.Parents.{fields_first, short_chain, child_faults, parent_faults, parents_faults}
use Rattle.law_forest.specs.Entries.{is_struct_entry, ends, entry_out, struct_at}
use Rattle.law_forest.specs.Chain.{kind, chain_up, ends_up, ends_root}

-- ── what rule 3 says of each child ──

pub record Child (most : ℕ) (types : List TypeDef) (t p : ℕ) : Type 0 where
  pub struct : T (is_struct (type_at types p))
  pub fields : T (fields_first types p t)
  pub short : T (short_chain most types t)

child_kept : (most : ℕ) (types : List TypeDef) (t p : ℕ) → child_faults most types t p ≡ [] → Child most types t p
unfolding child_faults
child_kept most types t p e =
    let a = unless (is_struct (type_at types p)) BadParent in
    let b = unless (fields_first types p t) BadParent in
    let c = unless (short_chain most types t) InheritanceTooDeep in
    let h = (append_empty (a ++ b) c).0 e in
    let k = (append_empty a b).0 h.0 in
    record {
      struct = (unless_empty (is_struct (type_at types p)) BadParent).0 k.0;
      fields = (unless_empty (fields_first types p t) BadParent).0 k.1;
      short = (unless_empty (short_chain most types t) InheritanceTooDeep).0 h.1;
    }

sub_in : (types : List TypeDef) (t p : ℕ) → entry_at types t ≡ sub p → t < length types
sub_in types t p k = go (dec_lt t (length types))
  where
    go : Dec (t < length types) → t < length types
    go (yes h) = h
    go (no h) = let z : other ≡ sub p = sym (entry_out types t (omega arith)) ∙ k in let y : ◌≡◌ {A = ℕ} 0 1 = cc in omega arith

faults_at : (most : ℕ) (m : Module) → parents_faults most m ≡ [] → (t : ℕ) → t < length m.types → parent_faults most m.types t (entry_at m.types t) ≡ []
unfolding parents_faults entry_at type_at
faults_at most m e t h =
    let f : ℕ → TypeDef → List LoadErrorKind = λ t d. parent_faults most m.types t (entry d) in
    (every_from coroutine f m.types).0 ((map_empty in_module (concat_map_from 0 f m.types)).0 e) t h

pub children_kept : (most : ℕ) (m : Module) → parents_faults most m ≡ [] → (t p : ℕ) → entry_at m.types t ≡ sub p → Child most m.types t p
unfolding parent_faults
children_kept most m e t p k =
    child_kept most m.types t p (sym (ap (parent_faults most m.types t) k) ∙ faults_at most m e t (sub_in m.types t p k))

-- ── chains end ──

length_chain : (types : List TypeDef) (f t : ℕ) → 1 ≤ length (chain types (suc f) t)
unfolding chain walk
length_chain types f t = omega arith

module _ (types : List TypeDef) (struct : (t p : ℕ) → entry_at types t ≡ sub p → T (is_struct (type_at types p))) where
  pub chain_ends : (f t : ℕ) → T (is_struct_entry (entry_at types t)) → length (chain types (suc f) t) ≤ f → T (ends types f t)
  chain_ends zero t s h = absurd (omega (arith, length_chain types 0 t))
  chain_ends (suc f) t s h = kind types t (T (ends types (suc f) t))
      (λ k. absurd (rw k at s))
      (λ k. rw (ends_root types f t k) tt)
      (λ p k. rw (ends_up types f t p k) (chain_ends f p (rw (struct_at types p) (struct t p k)) (omega (arith, rw (chain_up types (suc f) t p k) at h))))
