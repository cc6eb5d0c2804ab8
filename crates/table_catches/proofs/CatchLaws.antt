-- The handler of a position, one handler more at a time.
use mathlib.Core.Path.{◌≡◌, refl, ap, ◌∙◌}
use mathlib.Core.Bool.{Bool, true, false, cond}
use mathlib.Core.List.{List}
use Prim.Native.Nat.{ℕ, zero, suc, ◌+◌, ◌*◌, ◌≤◌, ◌<◌}
use native.Mathlib.Omega.{arith}
use native.Mathlib.Nat.{zero-add}
use lib.Dec.{leb, ltb}
use lib.ListN.{length, get_or, length-map}
use borrow.Author.Tests.{le-leb, lt-ltb, leb-true, ltb-true}
use Rattle.lists.specs.Lists.{from}
use Rattle.lists.specs.ListLaws.{length_from, get_d_map_from, and_first, and_second}
use Rattle.blocks.specs.Blocks.{words}
use Rattle.table.specs.Records.{no_handler}
use Rattle.table_catches.specs.Catch.{within, lowest, catch_at, catches}

pub catches_length : (b : List ℕ) (at h len : ℕ) → length (catches b at h len) ≡ len
unfolding catches
catches_length b at h len = length-map (from 0 len) (catch_at b at h) ∙ length_from 0 len

pub catches_at : (b : List ℕ) (at h len p : ℕ) → p < len → get_or (catches b at h len) p 0 ≡ catch_at b at h p
unfolding catches
catches_at b at h len p l = get_d_map_from (catch_at b at h) 0 0 len p l ∙ ap (catch_at b at h) (zero-add p)

module _ (b : List ℕ) (at p k : ℕ) where
  pub within_yes : get_or (words b) (at + 4 * k) 0 ≤ p → p < get_or (words b) (at + 4 * k + 1) 0 → within b at p k ≡ true
  within_yes x y = rw (le-leb _ _ x, lt-ltb _ _ y) refl

  pub within_start : within b at p k ≡ true → get_or (words b) (at + 4 * k) 0 ≤ p
  within_start e = leb-true _ _ (and_first (leb (get_or (words b) (at + 4 * k) 0) p) (ltb p (get_or (words b) (at + 4 * k + 1) 0)) e)

  pub within_end : within b at p k ≡ true → p < get_or (words b) (at + 4 * k + 1) 0
  within_end e = ltb-true _ _ (and_second (leb (get_or (words b) (at + 4 * k) 0) p) (ltb p (get_or (words b) (at + 4 * k + 1) 0)) e)

-- one number more: it is taken where no_handler was and it passes
lowest_last : (f : ℕ → Bool) (k m : ℕ) → k + m < no_handler →
    ((lowest f k m ≡ no_handler → f (k + m) ≡ true → lowest f k (suc m) ≡ k + m) × ((lowest f k m ≡ no_handler → f (k + m) ≡ true → ⊥) → lowest f k (suc m) ≡ lowest f k m))
lowest_last f k zero h = let z : k + 0 ≡ k = omega arith in rw z (λ e t. rw t refl, λ n. go (f k) refl n)
  where
    go : (b : Bool) → f k ≡ b → (no_handler ≡ no_handler → f k ≡ true → ⊥) → cond b k no_handler ≡ no_handler
    go true e n = absurd (n refl e)
    go false e n = refl
lowest_last f k (suc m) h = let z : k + suc m ≡ suc k + m = omega arith in rw z (go (f k) (lowest_last f (suc k) m (omega arith)))
  where
    go : (b : Bool) →
        ((lowest f (suc k) m ≡ no_handler → f (suc k + m) ≡ true → lowest f (suc k) (suc m) ≡ suc k + m) × ((lowest f (suc k) m ≡ no_handler → f (suc k + m) ≡ true → ⊥) → lowest f (suc k) (suc m) ≡ lowest f (suc k) m)) →
        ((cond b k (lowest f (suc k) m) ≡ no_handler → f (suc k + m) ≡ true → cond b k (lowest f (suc k) (suc m)) ≡ suc k + m) × ((cond b k (lowest f (suc k) m) ≡ no_handler → f (suc k + m) ≡ true → ⊥) → cond b k (lowest f (suc k) (suc m)) ≡ cond b k (lowest f (suc k) m)))
    go true ih = (λ e t. absurd (omega arith), λ n. refl)
    go false ih = ih

pub lowest_hit : (f : ℕ → Bool) (k : ℕ) → k < no_handler → lowest f 0 k ≡ no_handler → f k ≡ true → lowest f 0 (k + 1) ≡ k
lowest_hit f k h e t =
    let z : 0 + k ≡ k = omega arith in
    let s : k + 1 ≡ suc k = omega arith in
    rw s ((lowest_last f 0 k (omega arith)).0 e (rw z t) ∙ z)

pub lowest_miss : (f : ℕ → Bool) (k : ℕ) → k < no_handler → (lowest f 0 k ≡ no_handler → f k ≡ true → ⊥) → lowest f 0 (k + 1) ≡ lowest f 0 k
lowest_miss f k h n =
    let z : 0 + k ≡ k = omega arith in
    let s : k + 1 ≡ suc k = omega arith in
    rw s ((lowest_last f 0 k (omega arith)).1 (λ e t. n e (rw z at t)))
