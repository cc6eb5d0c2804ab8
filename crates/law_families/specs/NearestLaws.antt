-- The nearest family of two by declared parents: what it is, and its laws.
use Rattle.std.specs.Prelude.{ℕ, ◌↔◌, List, Bool, eqb, length, Option, None, Some, option_map, option_and_then}
use Rattle.std.proofs.Math.Path.{◌≡◌, refl}
use Rattle.std.proofs.Common.{sym, ◌∙◌, subst, arith}
use Rattle.std.proofs.Math.Bool.{true, false}
use Rattle.std.proofs.Math.Dec.{T, eqb→eq}
use borrow.Author.Tests.{lt-ltb}
use Rattle.lists.specs.Best.{best}
use Rattle.law_counting.specs.Counting.{eqb_of}
use Rattle.law_counting.specs.BestLaws.{Ranks, by_most}
use Rattle.sheet.specs.Module.{TypeDef, type_at, is_struct}
use Rattle.parents.specs.Forest.{entry_at, chain_length}
use Rattle.law_forest.specs.Entries.{is_struct_entry, struct_at}
use Rattle.law_forest.specs.Once.{ChainRule}
use Rattle.families.specs.Families.{is_from, common_families, is_deeper, nearest, root_of, have_one_root}
use Rattle.law_families.specs.Ancestors.{Descent, IsNearest, Common, nearest_one, nearest_also, nearest_is, nearest_moved}
use Rattle.law_families.specs.Ancestors.{turned, with_itself, grouped, both_from}
use Rattle.law_families.specs.Chains.{reach_struct, reach_longer, reach_root, root_reached}
use Rattle.law_families.specs.FamilyLaws.{and_t3, from_reaches, from_known, from_itself, descent}

module _ (most : ℕ) (types : List TypeDef) (rule : ChainRule most types) where
  abbrev d : ℕ → ℕ → Bool
  d t a = is_from most types t a

  abbrev near : ℕ → ℕ → Option ℕ
  near t u = nearest most types t u

  o : Descent d
  o = descent most types rule

  -- any way to find the best among the common ancestors that prefers who descends finds the nearest
  by_rank : (beats : ℕ → ℕ → Bool) → Ranks beats → ((a b : ℕ) → T (d a b) → (a ≡ b → ⊥) → beats a b ≡ true) →
      (t u : ℕ) → IsNearest d (Common d t u) (best beats (common_families most types t u))
  unfolding common_families
  by_rank beats r strict t u = nearest_is d o beats r strict (length types) (from_known most types rule) t u

  by_chain : Ranks (is_deeper most types)
  unfolding is_deeper
  by_chain = by_most (chain_length most types)

  deeper : (a b : ℕ) → T (d a b) → (a ≡ b → ⊥) → is_deeper most types a b ≡ true
  unfolding is_deeper
  deeper a b h n =
      lt-ltb (chain_length most types b) (chain_length most types a)
      (reach_longer most types rule ((from_reaches most types rule a b).0 h).2 n)

  -- a common ancestor that descends from every other, or none where there is none
  pub nearest_holds : (t u : ℕ) → IsNearest d (Common d t u) (near t u)
  unfolding nearest
  nearest_holds t u = by_rank (is_deeper most types) by_chain deeper t u

  pub nearest_by : (beats : ℕ → ℕ → Bool) → Ranks beats → ((a b : ℕ) → T (d a b) → (a ≡ b → ⊥) → beats a b ≡ true) →
      (t u : ℕ) → best beats (common_families most types t u) ≡ near t u
  nearest_by beats r strict t u =
      nearest_one d o (Common d t u) (best beats (common_families most types t u)) (near t u)
      (by_rank beats r strict t u) (nearest_holds t u)

  -- ── laws ──

  pub nearest_turned : (t u : ℕ) → near t u ≡ near u t
  nearest_turned t u =
      nearest_one d o (Common d t u) (near t u) (near u t) (nearest_holds t u) (turned d o u t (near u t) (nearest_holds u t))

  pub nearest_self : (t : ℕ) → T (is_struct (type_at types t)) → near t t ≡ Some t
  nearest_self t s =
      nearest_one d o (Common d t t) (near t t) (Some t) (nearest_holds t t) (with_itself d o t (from_itself most types rule t s))

  -- three are grouped either way, none swallowing all
  pub nearest_three : (t u v : ℕ) → option_and_then (λ f. near f v) (near t u) ≡ option_and_then (λ f. near t f) (near u v)
  nearest_three t u v =
      let left = option_and_then (λ f. near f v) (near t u) in
      let right = option_and_then (λ f. near t f) (near u v) in
      nearest_one d o (λ x. Common d t u x × T (d v x)) left right
      (grouped d o t u v (λ f. near f v) (λ f. nearest_holds f v) (near t u) (nearest_holds t u))
      (nearest_also d o (λ x. Common d u v x × T (d t x)) (λ x. Common d t u x × T (d v x))
      (λ x. (λ k. ((k.1, k.0.0), k.0.1), λ k. ((k.0.1, k.1), k.0.0))) right
      (grouped d o u v t (λ f. near t f) (λ f. turned d o t f (near t f) (nearest_holds t f)) (near u v) (nearest_holds u v)))

  -- both descend from a exactly where the nearest family exists and descends from it
  pub nearest_both : (t u a : ℕ) → (T (d t a) × T (d u a)) ↔ ((f : ℕ) × (near t u ≡ Some f) × T (d f a))
  nearest_both t u a = both_from d o t u a (near t u) (nearest_holds t u)

  -- ── none ──

  -- a struct type descends from its root
  from_root : (t : ℕ) → T (is_struct (type_at types t)) → T (d t (root_of most types t))
  from_root t s =
      let e : T (is_struct_entry (entry_at types t)) = rw (struct_at types t) s in
      let r = root_reached most types rule t e in
      (from_reaches most types rule t (root_of most types t)).1
      (s, rw (← struct_at types (root_of most types t)) (reach_struct most types rule r e), r)

  one_root : (t u : ℕ) → T (have_one_root most types t u) ↔
      (T (is_struct (type_at types t)) × T (is_struct (type_at types u)) × (root_of most types t ≡ root_of most types u))
  unfolding have_one_root
  one_root t u =
      let e = and_t3 (is_struct (type_at types t)) (is_struct (type_at types u)) (eqb (root_of most types t) (root_of most types u)) in (
        λ h. let k = e.0 h in (k.0, k.1, eqb→eq (root_of most types t) (root_of most types u) k.2),
        λ h. e.1 (h.0, h.1, eqb_of (root_of most types t) (root_of most types u) h.2),
      )

  common_root : (t u f : ℕ) → Common d t u f → T (have_one_root most types t u)
  common_root t u f k =
      let a = (from_reaches most types rule t f).0 k.0 in
      let b = (from_reaches most types rule u f).0 k.1 in
      (one_root t u).1 (a.0, b.0, reach_root most types rule a.2 ∙ sym (reach_root most types rule b.2))

  root_common : (t u : ℕ) → T (have_one_root most types t u) → Common d t u (root_of most types t)
  root_common t u h =
      let k = (one_root t u).0 h in
      (from_root t k.0, subst (λ x. T (d u x)) (sym k.2) (from_root u k.1))

  -- none exactly where the roots differ or a number is no struct type
  pub nearest_none : (t u : ℕ) → (near t u ≡ None) ↔ (have_one_root most types t u ≡ false)
  unfolding IsNearest
  nearest_none t u = go (near t u) (nearest_holds t u) (have_one_root most types t u) refl
    where
      go : (p : Option ℕ) → IsNearest d (Common d t u) p → (b : Bool) → have_one_root most types t u ≡ b → (p ≡ None) ↔ (b ≡ false)
      go None h false e = (λ q. refl, λ q. refl)
      go None h true e = absurd (h (root_of most types t) (root_common t u (subst T (sym e) tt)))
      go (Some f) h false e = absurd (subst T e (common_root t u f h.0))
      go (Some f) h true e = (
        λ q. let w : ◌≡◌ {A = ℕ} 0 1 = cc in absurd (omega arith),
        λ q. let w : ◌≡◌ {A = ℕ} 0 1 = cc in absurd (omega arith),
      )

-- ── two sheets that differ by one renumbering ──

-- the nearest family of the images is the image of the nearest family
pub nearest_image : (most : ℕ) (types types' : List TypeDef) → ChainRule most types → ChainRule most types' →
    (π ρ : ℕ → ℕ) → ((x : ℕ) → π (ρ x) ≡ x) → ((t a : ℕ) → is_from most types t a ≡ is_from most types' (π t) (π a)) →
    (t u : ℕ) → nearest most types' (π t) (π u) ≡ option_map π (nearest most types t u)
nearest_image most types types' rule rule' π ρ forth alike t u =
    let e = is_from most types' in
    nearest_one e (descent most types' rule') (Common e (π t) (π u))
    (nearest most types' (π t) (π u)) (option_map π (nearest most types t u))
    (nearest_holds most types' rule' (π t) (π u))
    (nearest_moved (is_from most types) e π ρ forth alike t u (nearest most types t u) (nearest_holds most types rule t u))
