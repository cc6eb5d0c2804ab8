-- The walk enters each struct once.
use Rattle.std.specs.Prelude.{◌≡◌, ◌||◌, List, ℕ, zero, suc, ◌+◌, ◌≤◌, ◌<◌, T, length}
use Rattle.std.proofs.Math.Path.{refl}
use Rattle.std.proofs.Common.{ap, ◌∙◌, append-nil}
use Rattle.std.proofs.Math.Decide.{dec_lt}
use native.Mathlib.Omega.{arith}
use Rattle.lists.specs.Lists.{any_of, concat_map, from}
use Rattle.law_counting.specs.Counting.{tick, count, sum, bool_ext, count_concat_map, sum_ext, exchange, length_by_counts, sum_ticks_le}
use Rattle.law_counting.specs.Places.{count_places}
use Rattle.sheet.specs.Module.{TypeDef, coroutine, struct_of, type_at}
use Rattle.parents.specs.Forest.{Entry, other, root, sub, entry, entry_of, entry_at, parents, walk, chain}
use Rattle.spans.specs.Spans.{is_root, is_child_of, numbers_of, children, roots, under, order}
use Rattle.law_forest.specs.Entries.{is_struct_entry, ends, entry_out}
use Rattle.law_forest.specs.Walk.{walk_converse}
use Rattle.law_forest.specs.Chain.{ends_struct}

-- every struct's chain ends at a root within lim numbers
pub record ChainRule (lim : ℕ) (types : List TypeDef) : Type 0 where
  pub short : (t : ℕ) → T (is_struct_entry (entry_at types t)) → T (ends types lim t)

tick_sub : (t : ℕ) (x : Entry) → tick (is_child_of t x) ≡ count t (parents x)
unfolding is_child_of parents
tick_sub t other = refl
tick_sub t root = refl
tick_sub t (sub p) = omega arith

-- a chain has one root where it ends, and none where it does not
roots_in : (types : List TypeDef) (f t : ℕ) → sum (λ x. tick (is_root (entry_at types x))) (chain types f t) ≡ tick (ends types f t)
unfolding ends chain walk parents is_root
roots_in types zero t = refl
roots_in types (suc f) t = go (entry_at types t) (λ p. roots_in types f p)
  where
    go : (x : Entry) → ((p : ℕ) → sum (λ y. tick (is_root (entry_at types y))) (chain types f p) ≡ tick (ends types f p)) →
        tick (is_root x) + sum (λ y. tick (is_root (entry_at types y))) (concat_map (chain types f) (parents x)) ≡
        tick (is_root x || any_of (λ y. is_root (entry_at types y)) (concat_map (chain types f) (parents x)))
    go other ih = refl
    go root ih = refl
    go (sub p) ih = rw append-nil (omega (arith, ih p))

module _ (lim : ℕ) (types : List TypeDef) where
  pub count_children : (t x : ℕ) → count x (children types t) ≡ count t (parents (entry_at types x))
  unfolding children numbers_of entry_at type_at entry entry_of struct_of is_child_of
  count_children t x = count_places (λ d. is_child_of t (entry d)) coroutine refl types x ∙ tick_sub t (entry_at types x)

  pub count_roots : (x : ℕ) → count x (roots types) ≡ tick (is_root (entry_at types x))
  unfolding roots numbers_of entry_at type_at entry entry_of struct_of is_root
  count_roots x = count_places (λ d. is_root (entry d)) coroutine refl types x

  -- x is below t as often as t is on the chain from x
  pub count_under : (f t x : ℕ) → count x (under f types t) ≡ count t (chain types f x)
  unfolding under chain
  count_under f t x = walk_converse (children types) (λ y. parents (entry_at types y)) count_children f t x

  -- with no rule: the walk enters once each number whose chain ends at a root, and no other
  pub count_order : (x : ℕ) → count x (order lim types) ≡ tick (ends types lim x)
  unfolding order
  count_order x = omega (
    arith,
    count_concat_map x (under lim types) (roots types),
    sum_ext (λ r. count x (under lim types r)) (λ r. count r (chain types lim x)) (λ r. count_under lim r x) (roots types),
    exchange (chain types lim x) (roots types),
    sum_ext (λ y. count y (roots types)) (λ y. tick (is_root (entry_at types y))) count_roots (chain types lim x),
    roots_in types lim x,
  )

  -- under the rule: each struct once, and nothing else
  pub once : ChainRule lim types → (x : ℕ) → count x (order lim types) ≡ tick (is_struct_entry (entry_at types x))
  once r x = count_order x ∙ ap tick (bool_ext (ends types lim x) (is_struct_entry (entry_at types x)) (ends_struct types lim x) (r.short x))

  -- so the order is as long as there are structs, and no longer than there are types
  pub order_length : ChainRule lim types → length (order lim types) ≡ sum (λ t. tick (is_struct_entry (entry_at types t))) (from 0 (length types))
  order_length r = length_by_counts (length types) (order lim types) (λ y k. below y (dec_lt y (length types)) (rw (once r y) at k))
      ∙ sum_ext (λ y. count y (order lim types)) (λ t. tick (is_struct_entry (entry_at types t))) (once r) (from 0 (length types))
    where
      below : (y : ℕ) → Dec (y < length types) → 1 ≤ tick (is_struct_entry (entry_at types y)) → y < length types
      below y (yes h) k = h
      below y (no h) k = absurd (omega (arith, rw (entry_out types y (omega arith)) at k))

  pub order_short : ChainRule lim types → length (order lim types) ≤ length types
  order_short r = rw (order_length r) (sum_ticks_le (λ t. is_struct_entry (entry_at types t)) 0 (length types))
