-- On the words that load left, a span is as wide as its family is large.
use Rattle.std.specs.Prelude.{ℕ, ◌-◌, ◌≤◌, ◌<◌, ◌≡◌, List, [], ◌++◌, false, cond, T, length, Err, Ok}
use Rattle.std.proofs.Math.Path.{ap, ap₂}
use Rattle.std.proofs.Common.{◌∙◌, arith}
use Rattle.lists.specs.ListLaws.{T_true, T_of}
use Rattle.sheet.specs.Module.{Module, type_at, is_struct}
use Rattle.host.specs.Host.{HostFn}
use Rattle.parents.specs.Parents.{parents_faults}
use Rattle.spans.specs.Spans.{no_pre}
use Rattle.table.specs.Table.{table_words}
use Rattle.descends.specs.Descends.{if_known, descends}
use Rattle.descends.specs.declared.QueryError.TheVariants.{NotLinked}
use Rattle.descends.specs.Sizes.{width_in, size_in}
use Rattle.families.specs.Families.{is_from, family_size}
use Rattle.law_forest.specs.Once.{ChainRule}
use Rattle.law_forest.proofs.AcceptedLaws.{chain_rule}
use Rattle.law_families.specs.FamilyLaws.{from_spans, size_span, size_none}
use Rattle.law_linked.specs.Answers.{if_linked, answered, known_value, struct_pre, struct_post, other_post}

module _ (most : ℕ) (hosts : List HostFn) (m : Module) (rest : List ℕ) (kept : parents_faults most m ≡ []) (one : 1 ≤ most)
    (few : length m.types ≤ no_pre) where
  abbrev left : List ℕ
  left = table_words most hosts m ++ rest

  rule : ChainRule most m.types
  rule = chain_rule most one m kept

  -- the query answers by declared parents
  pub query_from : (t a : ℕ) → descends left t a ≡ cond (is_from most m.types t a) 1 0
  query_from t a = answered most hosts m rest kept one few t a ∙ ap (λ b. cond b 1 0) (from_spans most m.types rule t a)

  -- THE SIZE THEOREM on a table: post minus pre is the size of the family
  pub width_is_size : (a : ℕ) → T (is_struct (type_at m.types a)) → width_in left a ≡ family_size most m.types a
  unfolding width_in
  width_is_size a s =
      let e = T_true (is_struct (type_at m.types a)) s in
      ap₂ (λ x y. x - y) (struct_post most hosts m rest kept one few a e) (struct_pre most hosts m rest kept one few a e)
      ∙ omega (arith, size_span most m.types rule a s)

  other_width : (a : ℕ) → a < length m.types → is_struct (type_at m.types a) ≡ false → width_in left a ≡ 0
  unfolding width_in
  other_width a h s = omega (arith, other_post most hosts m rest kept one few a h s)

  known_is_size : (a : ℕ) → if_known left a (width_in left a) ≡ family_size most m.types a
  known_is_size a =
      known_value most hosts m rest a (width_in left a) (family_size most m.types a)
      (λ s. width_is_size a (T_of (is_struct (type_at m.types a)) s)) (other_width a) (size_none most m.types rule a)

  -- every number has its family's size: what is no struct or no type has none
  pub size_answered : (a : ℕ) → size_in left a ≡ Ok (family_size most m.types a)
  unfolding size_in
  size_answered a =
      if_linked most hosts m rest (Ok (if_known left a (width_in left a))) (Err NotLinked) ∙ ap Ok (known_is_size a)
