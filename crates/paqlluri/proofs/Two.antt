-- The two numbers of an answer.
use mathlib.Core.Path.{◌≡◌, sym, ap, ◌∙◌}
use mathlib.Core.List.{List, [], ◌∷◌}
use Prim.Native.Nat.{ℕ}
use Rattle.std.specs.Prelude.{Err, Ok, None, Some, Option}
use Rattle.descends.specs.declared.QueryError.TheVariants.{NotLinked}
use Rattle.descends.specs.Sizes.{FamilySize, size_in, size_numbers}
use Rattle.descends.specs.Lengths.{ChainLength, chain_length_in, length_numbers}
use Rattle.descends.specs.Nearest.{NearestFamily, nearest_in, nearest_numbers}
use Rattle.error.specs.declared.TypeId.{TypeId}
use Rattle.families.specs.Counted.{structs_in, count_numbers}

module _ (ws : List ℕ) (a : ℕ) {x : FamilySize} (e : x ≡ size_in ws a) where
  pub size_told : {n : ℕ} → x ≡ Ok n → 0 ∷ n ∷ [] ≡ size_numbers (size_in ws a)
  unfolding size_numbers
  size_told q = ap size_numbers (sym q ∙ e)

  pub size_unlinked : x ≡ Err NotLinked → 25 ∷ 0 ∷ [] ≡ size_numbers (size_in ws a)
  unfolding size_numbers
  size_unlinked q = ap size_numbers (sym q ∙ e)

pub ruleset sizes = (size_told, size_unlinked)

module _ (ws : List ℕ) (t : ℕ) {x : ChainLength} (e : x ≡ chain_length_in ws t) where
  pub length_told : {n : ℕ} → x ≡ Ok n → 0 ∷ n ∷ [] ≡ length_numbers (chain_length_in ws t)
  unfolding length_numbers
  length_told q = ap length_numbers (sym q ∙ e)

  pub length_unlinked : x ≡ Err NotLinked → 25 ∷ 0 ∷ [] ≡ length_numbers (chain_length_in ws t)
  unfolding length_numbers
  length_unlinked q = ap length_numbers (sym q ∙ e)

pub ruleset lengths = (length_told, length_unlinked)

module _ (ws : List ℕ) (t u : ℕ) {x : NearestFamily} (e : x ≡ nearest_in ws t u) where
  pub found_told : {f : TypeId} → x ≡ Ok (Some f) → 0 ∷ f.0 ∷ [] ≡ nearest_numbers (nearest_in ws t u)
  unfolding nearest_numbers
  found_told q = ap nearest_numbers (sym q ∙ e)

  pub none_told : x ≡ Ok None → 1 ∷ 0 ∷ [] ≡ nearest_numbers (nearest_in ws t u)
  unfolding nearest_numbers
  none_told q = ap nearest_numbers (sym q ∙ e)

  pub nearest_unlinked : x ≡ Err NotLinked → 25 ∷ 0 ∷ [] ≡ nearest_numbers (nearest_in ws t u)
  unfolding nearest_numbers
  nearest_unlinked q = ap nearest_numbers (sym q ∙ e)

pub ruleset nearests = (found_told, none_told, nearest_unlinked)

module _ (sheet : List ℕ) {x : Option ℕ} (e : x ≡ structs_in sheet) where
  pub count_told : {n : ℕ} → x ≡ Some n → 0 ∷ n ∷ [] ≡ count_numbers (structs_in sheet)
  unfolding count_numbers
  count_told q = ap count_numbers (sym q ∙ e)

  pub count_broken : x ≡ None → 1 ∷ 0 ∷ [] ≡ count_numbers (structs_in sheet)
  unfolding count_numbers
  count_broken q = ap count_numbers (sym q ∙ e)

pub ruleset counts = (count_told, count_broken)
