-- A module and its renumbering, number by number.
use Rattle.std.specs.Prelude.{◌≡◌, List, [], map, ℕ, ◌<◌, ltb, length}
use Rattle.std.proofs.Math.Path.{ap, subst}
use Rattle.std.proofs.Common.{◌∙◌, arith, ltb→lt, lt→ltb}
use Rattle.std.proofs.Math.Decide.{dec_lt}
use Rattle.std.proofs.lemmas.List.{length-map}
use Rattle.lists.specs.Lists.{concat_map, concat_map_from}
use Rattle.law_counting.specs.Counting.{bool_ext}
use Rattle.law_faults.specs.Empty.{every, every_from}
use Rattle.law_faults.specs.Together.{Together, together_range}
use Rattle.error.specs.declared.What.TheVariants.{Types}
use Rattle.error.specs.Answer.{in_range}
use Rattle.sheet.specs.Module.{TypeDef, coroutine, Module, type_at, sig_of}
use Rattle.imports.specs.Params.{sig_params, sig_results}
use Rattle.parents.specs.Forest.{entry, entry_at}
use Rattle.renumber.specs.Renumber.{image, value_image, sig_image, types_image, renumber}
use Rattle.law_renumbering.specs.Bijection.{Listed, origins, bijection, types_size, type_moved}
use Rattle.law_renumbering.specs.Images.{rename, entry_image, sig_image_lem}
use Rattle.law_renumbering.specs.CanonMoved.{Moved}

-- ── types in another order ──

module _ {types types' : List TypeDef} {π ρ : ℕ → ℕ} (w : Moved types types' π ρ) where
  pub origin_below : (t : ℕ) → t < length types → ρ t < length types
  origin_below t h = go (dec_lt (ρ t) (length types))
    where
      go : Dec (ρ t < length types) → ρ t < length types
      go (yes k) = k
      go (no k) = absurd (omega (arith, w.bijection.above (ρ t) (omega arith), w.bijection.forth t))

  module _ {B B' : Type 0} where
    pub together_moved_from : (f : ℕ → TypeDef → List B) (f' : ℕ → TypeDef → List B') →
        ((t : ℕ) → Together (f t (type_at types t)) (f' (π t) (type_at types' (π t)))) → Together (concat_map_from 0 f types) (concat_map_from 0 f' types')
    unfolding type_at
    together_moved_from f f' h = record {
      there = λ e. (every_from coroutine f' types').1 (λ t l.
          subst (λ (i : ℕ). f' i (type_at types' i) ≡ []) (w.bijection.forth t)
          ((h (ρ t)).there ((every_from coroutine f types).0 e (ρ t) (origin_below t (omega (arith, w.size))))));
      back = λ e. (every_from coroutine f types).1 (λ t l. (h t).back ((every_from coroutine f' types').0 e (π t) (omega (arith, w.bijection.below t l, w.size))));
    }

    pub together_moved : (f : TypeDef → List B) (f' : TypeDef → List B') →
        ((t : ℕ) → Together (f (type_at types t)) (f' (type_at types' (π t)))) → Together (concat_map f types) (concat_map f' types')
    unfolding type_at
    together_moved f f' h = record {
      there = λ e. (every coroutine f' types').1 (λ t l.
          subst (λ (i : ℕ). f' (type_at types' i) ≡ []) (w.bijection.forth t)
          ((h (ρ t)).there ((every coroutine f types).0 e (ρ t) (origin_below t (omega (arith, w.size))))));
      back = λ e. (every coroutine f types).1 (λ t l. (h t).back ((every coroutine f' types').0 e (π t) (omega (arith, w.bijection.below t l, w.size))));
    }

  -- a type is known just where its image is
  pub known_moved : (t : ℕ) → ltb t (length types) ≡ ltb (π t) (length types')
  known_moved t = bool_ext (ltb t (length types)) (ltb (π t) (length types'))
      (λ h. lt→ltb (π t) (length types') (omega (arith, w.bijection.below t (ltb→lt t (length types) h), w.size)))
      (λ h. lt→ltb t (length types) (go (ltb→lt (π t) (length types') h) (dec_lt t (length types))))
    where
      go : π t < length types' → Dec (t < length types) → t < length types
      go h (yes k) = k
      go h (no k) = omega (arith, w.bijection.above t (omega arith), w.size)

  pub range_moved : (t : ℕ) → Together (in_range Types (length types) t) (in_range Types (length types') (π t))
  range_moved t = together_range Types (length types) t (length types') (π t) (known_moved t)

  pub entry_moved : (t : ℕ) → entry_at types' (π t) ≡ rename π (entry_at types t)
  unfolding entry_at
  entry_moved t = ap entry (w.at t) ∙ entry_image π (type_at types t)

-- ── the module ──

module _ (r : List ℕ) (m : Module) (l : Listed (length m.types) r) where
  pub moved : Moved m.types (types_image r m.types) (image r) (origins r)
  moved = record { bijection = bijection (length m.types) r l; size = types_size r m.types; at = type_moved r m.types l }

  pub params_moved : (s : ℕ) → sig_params (renumber r m) (image r s) ≡ map (value_image (image r)) (sig_params m s)
  unfolding sig_params renumber sig_image
  params_moved s = ap (λ (d : TypeDef). (sig_of d).params) (moved.at s) ∙ ap (λ x. x.params) (sig_image_lem (image r) (type_at m.types s))

  pub results_moved : (s : ℕ) → sig_results (renumber r m) (image r s) ≡ map (value_image (image r)) (sig_results m s)
  unfolding sig_results renumber sig_image
  results_moved s = ap (λ (d : TypeDef). (sig_of d).results) (moved.at s) ∙ ap (λ x. x.results) (sig_image_lem (image r) (type_at m.types s))

  pub params_count : (s : ℕ) → length (sig_params (renumber r m) (image r s)) ≡ length (sig_params m s)
  params_count s = ap length (params_moved s) ∙ length-map (sig_params m s) (value_image (image r))

  pub results_count : (s : ℕ) → length (sig_results (renumber r m) (image r s)) ≡ length (sig_results m s)
  results_count s = ap length (results_moved s) ∙ length-map (sig_results m s) (value_image (image r))
