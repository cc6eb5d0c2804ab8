-- Families by declared parents and by spans: who descends, and how many do.
use Rattle.std.specs.Prelude.{ℕ, zero, suc, ◌+◌, ◌≤◌, ◌<◌, ◌≡◌, ◌↔◌, List, [], ◌∷◌, ◌++◌, Bool, ◌&&◌, ◌||◌, eqb, ltb}
use Rattle.std.proofs.Math.Path.{refl, sym, ap, subst}
use Rattle.std.proofs.Common.{◌∙◌, inl, inr, ⊎_elim, length-append}
use Rattle.std.proofs.Math.Bool.{true, false}
use native.Mathlib.Omega.{arith}
use Rattle.std.proofs.Math.Dec.{T, leb}
use borrow.Author.Tests.{ltb-true}
use Rattle.std.proofs.Math.ListN.{length}
use Rattle.lists.specs.Lists.{concat_map, contains, from}
use Rattle.lists.specs.ListLaws.{T_true, T_of, and_second}
use Rattle.law_counting.specs.Counting.{tick, count, sum, bool_ext, count_append, count_from}
use Rattle.law_counting.specs.Counting.{sum_ext, sum_none, sum_ext_in, length_by_counts}
use Rattle.law_counting.specs.Sums.{sum_below}
use Rattle.law_counting.specs.Kept.{length_keep, length_kept}
use Rattle.sheet.specs.Module.{TypeDef, coroutine, type_at, is_struct}
use Rattle.sheet.specs.TypeLaws.{struct_known}
use Rattle.parents.specs.Forest.{entry_at, chain}
use Rattle.spans.specs.Spans.{roots, under, order, pre, post, descends_by_span, Reaches, here}
use Rattle.law_forest.specs.Entries.{is_struct_entry, struct_at}
use Rattle.law_forest.specs.Chain.{reaches→chain, chain→reaches}
use Rattle.law_forest.specs.Once.{ChainRule, count_under, once, order_length}
use Rattle.law_forest.specs.Family.{Part, part_order, family_test, ready_root}
use Rattle.families.specs.Families.{is_from, family, family_size, struct_count}
use Rattle.law_families.specs.Ancestors.{Descent}
use Rattle.law_families.specs.Chains.{reach_through, reach_line, reach_same}

-- ── tests ──

pub contains_is : (x : ℕ) (l : List ℕ) → T (contains l x) ↔ (1 ≤ count x l)
contains_is x [] = (λ h. absurd h, λ h. absurd (omega arith))
contains_is x (y ∷ l) = go (eqb x y) (contains_is x l)
  where
    go : (b : Bool) → T (contains l x) ↔ (1 ≤ count x l) → T (b || contains l x) ↔ (1 ≤ tick b + count x l)
    go true e = (λ h. omega arith, λ h. tt)
    go false e = (λ h. omega (arith, e.0 h), λ h. e.1 (omega arith))

pub and_t3 : (a b c : Bool) → T (a && b && c) ↔ (T a × T b × T c)
and_t3 false b c = (λ h. absurd h, λ h. h.0)
and_t3 true false c = (λ h. absurd h, λ h. h.1)
and_t3 true true c = (λ h. (tt, tt, h), λ h. h.2)

-- ── who descends ──

module _ (most : ℕ) (types : List TypeDef) (rule : ChainRule most types) where
  -- both are structs, and declared parents lead from t to a
  pub from_reaches : (t a : ℕ) →
      T (is_from most types t a) ↔ (T (is_struct (type_at types t)) × T (is_struct (type_at types a)) × Reaches types t a)
  unfolding is_from
  from_reaches t a =
      let e = and_t3 (is_struct (type_at types t)) (is_struct (type_at types a)) (contains (chain types most t) a) in
      let c = contains_is a (chain types most t) in (
        λ h. let k = e.0 h in (k.0, k.1, chain→reaches types most t a (c.0 k.2)),
        λ h. e.1 (h.0, h.1, c.1 (reaches→chain types most h.2 (rule.short t (rw (struct_at types t) h.0)))),
      )

  pub from_spans : (t a : ℕ) → descends_by_span most types t a ≡ is_from most types t a
  from_spans t a =
      let e = family_test most types rule t a in
      let f = from_reaches t a in
      bool_ext (descends_by_span most types t a) (is_from most types t a) (λ h. f.1 (e.0 h)) (λ h. e.1 (f.0 h))

  pub from_itself : (t : ℕ) → T (is_struct (type_at types t)) → T (is_from most types t t)
  from_itself t s = (from_reaches t t).1 (s, s, here refl)

  pub from_known : (t a : ℕ) → T (is_from most types t a) → a < length types
  from_known t a h = struct_known types a (T_true (is_struct (type_at types a)) ((from_reaches t a).0 h).1)

  -- families are a forest
  pub descent : Descent (is_from most types)
  descent = record {
    lower = λ t a h. from_itself t ((from_reaches t a).0 h).0;
    upper = λ t a h. from_itself a ((from_reaches t a).0 h).1;
    through = λ t a b h k.
        let x = (from_reaches t a).0 h in
        let y = (from_reaches a b).0 k in
        (from_reaches t b).1 (x.0, y.1, reach_through types x.2 y.2);
    line = λ t a b h k.
        let x = (from_reaches t a).0 h in
        let y = (from_reaches t b).0 k in
        ⊎_elim (λ r. inl ((from_reaches a b).1 (x.1, y.1, r))) (λ r. inr ((from_reaches b a).1 (y.1, x.1, r)))
        (reach_line types x.2 y.2);
    same = λ a b h k. reach_same most types rule ((from_reaches a b).0 h).2 ((from_reaches b a).0 k).2;
  }

  -- ── how many descend ──

  part_count : (x : ℕ) {m l : List ℕ} → Part m l → count x m ≤ count x l
  part_count x {m} {l} p = omega (arith, ap (count x) p.is, count_append x p.left (m ++ p.right), count_append x m p.right)

  -- the walk under a enters those who descend from it, once each
  count_family : (a x : ℕ) → T (is_struct (type_at types a)) → count x (under most types a) ≡ tick (is_from most types x a)
  unfolding is_from
  count_family a x s = go (is_struct (type_at types x)) refl (contains (chain types most x) a) refl
    where
      few : count x (under most types a) ≤ tick (is_struct (type_at types x))
      few = omega (
        arith,
        part_count x (part_order most types rule a (rw (struct_at types a) s)),
        once most types rule x,
        ap tick (struct_at types x),
      )

      no_count : (k : ℕ) → (1 ≤ k → ⊥) → count x (under most types a) ≡ k → count x (under most types a) ≡ 0
      no_count zero h e = e
      no_count (suc k) h e = absurd (h (omega arith))

      go : (b : Bool) → is_struct (type_at types x) ≡ b → (c : Bool) → contains (chain types most x) a ≡ c →
          count x (under most types a) ≡ tick (is_struct (type_at types x) && is_struct (type_at types a) && contains (chain types most x) a)
      go false e c f = rw e (omega (arith, few, ap tick e))
      go true e true f = rw (e, T_true (is_struct (type_at types a)) s, f)
          (let c = (contains_is a (chain types most x)).0 (T_of (contains (chain types most x) a) f) in
          omega (arith, few, ap tick e, count_under most types most a x, c))
      go true e false f = rw (e, T_true (is_struct (type_at types a)) s, f)
          (no_count (count a (chain types most x)) (λ h. subst T f ((contains_is a (chain types most x)).1 h))
          (count_under most types most a x))

  pub size_under : (a : ℕ) → T (is_struct (type_at types a)) → family_size most types a ≡ length (under most types a)
  unfolding family_size family
  size_under a s =
      length_keep (λ t. is_from most types t a) (from 0 (length types))
      ∙ sym
      (sum_ext (λ x. count x (under most types a)) (λ x. tick (is_from most types x a)) (λ x. count_family a x s) (from 0 (length types)))
      ∙ sym (length_by_counts (length types) (under most types a) below)
    where
      below : (y : ℕ) → 1 ≤ count y (under most types a) → y < length types
      below y k = go (is_from most types y a) refl
        where
          go : (b : Bool) → is_from most types y a ≡ b → y < length types
          go true e = struct_known types y (T_true (is_struct (type_at types y)) ((from_reaches y a).0 (T_of (is_from most types y a) e)).0)
          go false e = absurd (omega (arith, count_family a y s, ap tick e))

  -- a number that is no struct type has no family
  pub size_none : (a : ℕ) → is_struct (type_at types a) ≡ false → family_size most types a ≡ 0
  unfolding family_size family
  size_none a e =
      length_keep (λ t. is_from most types t a) (from 0 (length types))
      ∙ sum_ext (λ t. tick (is_from most types t a)) (λ t. 0)
      (λ t. no_tick (is_from most types t a) (λ h. subst T e ((from_reaches t a).0 h).1)) (from 0 (length types))
      ∙ sum_none (from 0 (length types))
    where
      no_tick : (b : Bool) → (T b → ⊥) → tick b ≡ 0
      no_tick true n = absurd (n tt)
      no_tick false n = refl

  -- THE SIZE THEOREM: post is pre and the size of the family
  pub size_span : (a : ℕ) → T (is_struct (type_at types a)) → post most types a ≡ pre most types a + family_size most types a
  unfolding post
  size_span a s = ap (λ k. pre most types a + k) (sym (size_under a s))

  -- a struct type is of its own family
  pub size_some : (a : ℕ) → T (is_struct (type_at types a)) → 1 ≤ family_size most types a
  unfolding descends_by_span
  size_some a s =
      let d = sym (T_true (is_from most types a a) (from_itself a s)) ∙ sym (from_spans a a) in
      let held = is_struct (type_at types a) && is_struct (type_at types a) && leb (pre most types a) (pre most types a) in
      let l = ltb-true (pre most types a) (post most types a) (and_second held (ltb (pre most types a) (post most types a)) (sym d)) in
      omega (arith, l, size_span a s)

  -- a family inside another is smaller
  pub size_smaller : (a b : ℕ) → T (is_from most types a b) → (a ≡ b → ⊥) → family_size most types a < family_size most types b
  unfolding family_size family
  size_smaller a b h n = omega (
    arith,
    length_keep (λ t. is_from most types t a) (from 0 (length types)),
    length_keep (λ t. is_from most types t b) (from 0 (length types)),
    sum_below (λ t. tick (is_from most types t a)) (λ t. tick (is_from most types t b))
        (λ x. tick_less (is_from most types x a) (is_from most types x b) (λ k. descent.through x a b k h))
        b (go (is_from most types b a) refl (is_from most types b b) refl) (from 0 (length types))
        (omega (arith, count_from b 0 (length types) (omega arith) (omega (arith, from_known a b h)))),
  )
    where
      tick_less : (x y : Bool) → (T x → T y) → tick x ≤ tick y
      tick_less true true f = omega arith
      tick_less true false f = absurd (f tt)
      tick_less false y f = omega arith

      go : (p : Bool) → is_from most types b a ≡ p → (q : Bool) → is_from most types b b ≡ q →
          tick (is_from most types b a) < tick (is_from most types b b)
      go true e q f = absurd (n (descent.same a b h (T_of (is_from most types b a) e)))
      go false e true f = omega (arith, ap tick e, ap tick f)
      go false e false f = absurd (subst T f (descent.upper a b h))

  -- ── all families ──

  length_concat : (g : ℕ → List ℕ) (l : List ℕ) → length (concat_map g l) ≡ sum (λ x. length (g x)) l
  length_concat g [] = refl
  length_concat g (x ∷ l) = omega (arith, length-append (g x) (concat_map g l), length_concat g l)

  pub struct_count_lem : struct_count types ≡ length (order most types)
  unfolding struct_count type_at
  struct_count_lem =
      length_kept is_struct coroutine types
      ∙ sym
      (order_length most types rule
      ∙ sum_ext (λ t. tick (is_struct_entry (entry_at types t))) (λ t. tick (is_struct (type_at types t)))
      (λ t. ap tick (struct_at types t)) (from 0 (length types)))

  -- THE ROOTS THEOREM: the sizes of the root families add up to the number of struct types
  pub roots_all : sum (family_size most types) (roots types) ≡ struct_count types
  unfolding order
  roots_all =
      sum_ext_in (family_size most types) (λ r. length (under most types r)) (roots types)
      (λ r k. size_under r (rw (← struct_at types r) (ready_root most types rule r k).1))
      ∙ sym (length_concat (under most types) (roots types))
      ∙ sym struct_count_lem
