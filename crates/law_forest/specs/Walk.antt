-- The walk of a relation and of its converse, by counts.
use Rattle.std.specs.Prelude.{◌≡◌, refl, List, ℕ, zero, suc, eqb}
use Rattle.std.proofs.Common.{sym, ap, ◌∙◌, arith}
use Rattle.lists.specs.Lists.{concat_map}
use Rattle.law_counting.specs.Counting.{tick, count, sum, eqb_sym, count_append, count_concat_map, sum_concat_map, sum_ext, sum_plus, sum_none, sum_is, exchange}
use Rattle.parents.specs.Forest.{walk}

-- one step more at the end of a walk is one step more at its start
walk_turn : (next : ℕ → List ℕ) (f x t : ℕ) → count t (concat_map next (walk next f x)) ≡ count t (concat_map (walk next f) (next x))
unfolding walk
walk_turn next zero x t = sym (count_concat_map t (walk next 0) (next x) ∙ sum_none (next x))
walk_turn next (suc f) x t = omega (
  arith,
  count_append t (next x) (concat_map next (concat_map (walk next f) (next x))),
  count_concat_map t next (concat_map (walk next f) (next x)),
  sum_concat_map (λ y. count t (next y)) (walk next f) (next x),
  sum_ext (λ z. sum (λ y. count t (next y)) (walk next f z)) (λ z. count t (concat_map (walk next f) (next z)))
      (λ z. sym (count_concat_map t next (walk next f z)) ∙ walk_turn next f z t) (next x),
  sum_plus (λ z. tick (eqb t z)) (λ z. count t (concat_map (walk next f) (next z))) (next x),
  sum_ext (λ z. tick (eqb t z)) (λ z. tick (eqb z t)) (λ z. ap tick (eqb_sym t z)) (next x),
  sum_is t (next x),
  count_concat_map t (walk next (suc f)) (next x),
)

-- x stands in the walk from t down as often as t in the walk from x up
pub walk_converse : (down up : ℕ → List ℕ) → ((t x : ℕ) → count x (down t) ≡ count t (up x)) →
    (f t x : ℕ) → count x (walk down f t) ≡ count t (walk up f x)
unfolding walk
walk_converse down up c zero t x = refl
walk_converse down up c (suc f) t x = omega (
  arith,
  ap tick (eqb_sym x t),
  count_concat_map x (walk down f) (down t),
  sum_ext (λ y. count x (walk down f y)) (λ y. count y (walk up f x)) (λ y. walk_converse down up c f y x) (down t),
  exchange (walk up f x) (down t),
  sum_ext (λ y. count y (down t)) (λ y. count t (up y)) (λ y. c t y) (walk up f x),
  count_concat_map t up (walk up f x),
  walk_turn up f x t,
)
