-- How deep a family is: 1 at a root, one more than its parent elsewhere, 0 for what is no struct type.
use Rattle.std.specs.Prelude.{ℕ, suc, ◌<◌, ◌≡◌, true, false, List, T}
use Rattle.std.proofs.Common.{sym, ◌∙◌, arith}
use Rattle.std.proofs.Math.Path.{ap}
use Rattle.std.proofs.Math.Bool.{cond}
use Rattle.lists.specs.ListLaws.{T_true}
use Rattle.sheet.specs.Module.{TypeDef, type_at, is_struct}
use Rattle.parents.specs.Forest.{root, sub, entry_at, chain_length}
use Rattle.law_forest.specs.Entries.{is_struct_entry, struct_at}
use Rattle.law_forest.specs.Once.{ChainRule}
use Rattle.law_forest.specs.Lengths.{length_root, length_child}
use Rattle.families.specs.Families.{is_from, family_depth}
use Rattle.law_families.specs.Chains.{parent_struct, reach_longer}
use Rattle.law_families.specs.FamilyLaws.{from_reaches}

module _ (most : ℕ) (types : List TypeDef) where
  pub depth_struct : (t : ℕ) → is_struct (type_at types t) ≡ true → family_depth most types t ≡ chain_length most types t
  unfolding family_depth
  depth_struct t s = ap (λ b. cond b (chain_length most types t) 0) s

  pub depth_other : (t : ℕ) → is_struct (type_at types t) ≡ false → family_depth most types t ≡ 0
  unfolding family_depth
  depth_other t s = ap (λ b. cond b (chain_length most types t) 0) s

  -- of a struct by its entry
  depth_entry : (t : ℕ) → T (is_struct_entry (entry_at types t)) → family_depth most types t ≡ chain_length most types t
  depth_entry t s = depth_struct t (T_true (is_struct (type_at types t)) (rw (← struct_at types t) s))

  module _ (rule : ChainRule most types) where
    pub depth_root : (t : ℕ) → entry_at types t ≡ root → family_depth most types t ≡ 1
    depth_root t k = depth_entry t (rw k tt) ∙ length_root most types rule t k

    pub depth_child : (t p : ℕ) → entry_at types t ≡ sub p → family_depth most types t ≡ suc (family_depth most types p)
    depth_child t p k =
        depth_entry t (rw k tt)
        ∙ length_child most types rule t p k
        ∙ ap suc (sym (depth_entry p (parent_struct most types rule t p k)))

    -- who descends from another is deeper
    pub depth_below : (t a : ℕ) → T (is_from most types t a) → (t ≡ a → ⊥) → family_depth most types a < family_depth most types t
    depth_below t a h n =
        let k = (from_reaches most types rule t a).0 h in
        let low = depth_struct t (T_true (is_struct (type_at types t)) k.0) in
        let high = depth_struct a (T_true (is_struct (type_at types a)) k.1) in
        omega (arith, low, high, reach_longer most types rule k.2 n)
