-- On the words that load left, the nearest family is that of the declared parents.
use Rattle.std.specs.Prelude.{ℕ, ◌≤◌, ◌≡◌, refl, List, [], ◌++◌, true, ◌&&◌, T, length, Err}
use Rattle.std.proofs.Math.Path.{ap, fun_ext}
use Rattle.std.proofs.Common.{◌∙◌, arith}
use borrow.Author.Tests.{lt-ltb}
use Rattle.lists.specs.Lists.{from, keep}
use Rattle.lists.specs.Best.{best}
use Rattle.sheet.specs.Module.{Module, type_at, is_struct}
use Rattle.host.specs.Host.{HostFn}
use Rattle.parents.specs.Parents.{parents_faults}
use Rattle.spans.specs.Spans.{no_pre}
use Rattle.table.specs.Table.{table_words}
use Rattle.descends.specs.Descends.{span_count, is_within}
use Rattle.descends.specs.Sizes.{width_in}
use Rattle.descends.specs.declared.QueryError.TheVariants.{NotLinked}
use Rattle.descends.specs.Nearest.{holds_both, is_narrower, nearest_of, family_of, nearest_in}
use Rattle.families.specs.Families.{is_from, common_families, nearest}
use Rattle.law_counting.specs.BestLaws.{Ranks, by_least}
use Rattle.law_forest.specs.Once.{ChainRule}
use Rattle.law_forest.proofs.AcceptedLaws.{chain_rule}
use Rattle.law_families.specs.FamilyLaws.{from_reaches, from_spans, size_smaller}
use Rattle.law_families.specs.NearestLaws.{nearest_by}
use Rattle.law_linked.specs.Answers.{if_linked, span_count_lem, within}
use Rattle.law_linked.specs.Sized.{width_is_size}

module _ (most : ℕ) (hosts : List HostFn) (m : Module) (rest : List ℕ) (kept : parents_faults most m ≡ []) (one : 1 ≤ most)
    (few : length m.types ≤ no_pre) where
  abbrev left : List ℕ
  left = table_words most hosts m ++ rest

  rule : ChainRule most m.types
  rule = chain_rule most one m kept

  within_from : (t a : ℕ) → is_within left t a ≡ is_from most m.types t a
  within_from t a =
      within most hosts m rest kept one few t a (is_struct (type_at m.types t)) (is_struct (type_at m.types a)) refl refl
      ∙ from_spans most m.types rule t a

  same_common : (t u : ℕ) → keep (holds_both left t u) (from 0 (span_count left)) ≡ common_families most m.types t u
  unfolding holds_both common_families
  same_common t u =
      let p : is_within left ≡ is_from most m.types = fun_ext (λ x. fun_ext (λ y. within_from x y)) in
      λ i. keep (λ a. p i t a && p i u a) (from 0 (span_count_lem most hosts m rest i))

  by_width : Ranks (is_narrower left)
  unfolding is_narrower
  by_width = by_least (width_in left)

  narrower : (a b : ℕ) → T (is_from most m.types a b) → (a ≡ b → ⊥) → is_narrower left a b ≡ true
  unfolding is_narrower
  narrower a b h n =
      let r = (from_reaches most m.types rule a b).0 h in
      let size = width_is_size most hosts m rest kept one few in
      lt-ltb (width_in left a) (width_in left b) (omega (arith, size a r.0, size b r.1, size_smaller most m.types rule a b h n))

  -- THE NEAREST THEOREM: what the words give is what the declared parents give
  nearest_found : (t u : ℕ) → nearest_of left t u ≡ nearest most m.types t u
  unfolding nearest_of
  nearest_found t u =
      ap (best (is_narrower left)) (same_common t u)
      ∙ nearest_by most m.types rule (is_narrower left) by_width narrower t u

  pub nearest_answered : (t u : ℕ) → nearest_in left t u ≡ family_of (nearest most m.types t u)
  unfolding nearest_in
  nearest_answered t u = if_linked most hosts m rest (family_of (nearest_of left t u)) (Err NotLinked) ∙ ap family_of (nearest_found t u)
