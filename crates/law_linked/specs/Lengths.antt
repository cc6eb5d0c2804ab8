-- On the words that load left, the third word of a span is the chain's length.
use Rattle.std.specs.Prelude.{ℕ, ◌<◌, ◌≡◌, List, ◌++◌, length, Err, Ok}
use Rattle.std.proofs.Common.{sym, ◌∙◌}
use Rattle.std.proofs.Math.Path.{ap}
use Rattle.sheet.specs.Module.{Module}
use Rattle.host.specs.Host.{HostFn}
use Rattle.table.specs.Table.{table_words}
use Rattle.descends.specs.Descends.{length_in, if_known}
use Rattle.descends.proofs.DescendsLaws.{known_is}
use Rattle.descends.specs.declared.QueryError.TheVariants.{NotLinked}
use Rattle.descends.specs.Lengths.{chain_length_in}
use Rattle.families.specs.Families.{family_depth}
use Rattle.law_families.specs.Depths.{depth_struct, depth_other}
use Rattle.law_linked.specs.Answers.{if_linked, span_count_lem, known_value, struct_length, other_length}

module _ (most : ℕ) (hosts : List HostFn) (m : Module) (rest : List ℕ) where
  abbrev left : List ℕ
  left = table_words most hosts m ++ rest

  known_is_depth : (t : ℕ) → if_known left t (length_in left t) ≡ family_depth most m.types t
  known_is_depth t =
      known_value most hosts m rest t (length_in left t) (family_depth most m.types t)
      (λ s. struct_length most hosts m rest t s ∙ sym (depth_struct most m.types t s))
      (other_length most hosts m rest t) (depth_other most m.types t)

  -- the third word of every type, struct or not
  pub word_is_depth : (t : ℕ) → t < length m.types → length_in left t ≡ family_depth most m.types t
  word_is_depth t h = known_is left t (length_in left t) (sym (span_count_lem most hosts m rest)) h ∙ known_is_depth t

  -- every number has its family's depth: what is no struct or no type has none
  pub length_answered : (t : ℕ) → chain_length_in left t ≡ Ok (family_depth most m.types t)
  unfolding chain_length_in
  length_answered t =
      if_linked most hosts m rest (Ok (if_known left t (length_in left t))) (Err NotLinked) ∙ ap Ok (known_is_depth t)
