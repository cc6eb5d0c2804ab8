-- For the code that reads words and check sums: one law for each return and each turn of a loop.
use Prim.Native.Nat.{ℕ, ◌+◌, ◌-◌, ◌*◌, ◌/◌, ◌%◌, ◌≤◌, ◌<◌}
use mathlib.Core.Path.{◌≡◌, refl, sym, ap, ap₂, ◌∙◌}
use mathlib.Core.List.{List}
use mathlib.Core.Bool.{false}
use native.Mathlib.Omega.{arith}
use native.Mathlib.Numerals.{add-one}
use native.Mathlib.Nat.{mul-le-mul}
use native.Mathlib.Decide.{dec_lt}
use lib.Dec.{eqb}
use lib.ListN.{length, get_or, take, drop, get_or-eq_default}
use lib.Seq.{take_all, take-take, drop-drop, get_or-drop}
use borrow.Author.Tests.{lt-ltb, le-ltb}
use Rattle.lists.specs.ListLaws.{drop_take}
use Rattle.blocks.specs.Blocks.{block_bytes, checked_bytes, number, weighed, check_word, checked, block_count, words}
use Rattle.blocks.specs.Frame.{block_checked}
use Rattle.blocks.specs.WordLaws.{length_words, number_four, byte_of, word_at, word_bytes_at}
use Rattle.blocks.proofs.ByteAccessLaws.{weighed_step}

-- ── a word ──

module _ (b : List ℕ) (i : ℕ) where
  pub word_inside : {block r : ℕ} → block ≡ i / 127 → block < length b / 512 → r ≡ word_at b (4 * (i + block)) → r ≡ get_or (words b) i 0
  unfolding block_count
  word_inside {block} k h e =
      let p : 4 * (i + block) ≡ byte_of i = omega (arith, k) in
      e ∙ ap (word_at b) p ∙ sym (word_bytes_at b i (omega (arith, k)))

  pub word_past : {block : ℕ} → block ≡ i / 127 → length b / 512 ≤ block → 0 ≡ get_or (words b) i 0
  unfolding block_count
  word_past k h = sym (get_or-eq_default (words b) 0 {n = i} (omega (arith, k, length_words b)))

-- ── a check sum ──

-- the sum of the first i bytes; 129,540 is 508 × 255
pub record Weighs (b : List ℕ) (n sum weight i : ℕ) : Type 0 where
  pub count : n ≡ length b - (length b - 508)
  pub within : i ≤ n
  pub weight_is : weight ≡ 1 + i
  pub sum_is : sum ≡ weighed 1 (take i b)
  pub small : sum ≤ 129540 * i

module _ (b : List ℕ) (n : ℕ) where
  pub weighs_start : n ≡ length b - (length b - 508) → Weighs b n 0 1 0
  unfolding weighed
  weighs_start e = record { count = e; within = omega arith; weight_is = refl; sum_is = refl; small = omega arith }

  pub weighs_term : (sum weight i : ℕ) → Weighs b n sum weight i → i < n → get_or b i 0 < 256 → weight * get_or b i 0 ≤ 129540
  weighs_term sum weight i w h k =
      let e : weight ≤ 508 = omega (arith, w.count, w.weight_is) in
      let f : get_or b i 0 ≤ 255 = omega arith in
      omega (arith, mul-le-mul e f)

  pub weighs_next : (sum weight i : ℕ) → Weighs b n sum weight i → i < n → get_or b i 0 < 256 → Weighs b n (sum + weight * get_or b i 0) (weight + 1) (i + 1)
  weighs_next sum weight i w h k = record {
    count = w.count;
    within = omega arith;
    weight_is = omega (arith, w.weight_is);
    sum_is = ap₂ (λ x y. x + y * get_or b i 0) w.sum_is w.weight_is ∙ sym (weighed_step 1 b i (omega (arith, w.count))) ∙ ap (λ m. weighed 1 (take m b)) (sym (add-one i));
    small = omega (arith, w.small, weighs_term sum weight i w h k);
  }

  pub weighs_end : (sum weight i : ℕ) → Weighs b n sum weight i → n ≤ i → sum ≡ weighed 1 (take 508 b)
  weighs_end sum weight i w h = w.sum_is ∙ ap (weighed 1) (go (dec_lt (length b) 508))
    where
      go : Dec (length b < 508) → take i b ≡ take 508 b
      go (yes l) = take_all i b (omega (arith, w.count)) ∙ sym (take_all 508 b (omega arith))
      go (no l) = let e : i ≡ 508 = omega (arith, w.count, w.within) in ap (λ m. take m b) e

-- ── a check word ──

-- the check word of block k, as code reads it
check_at : (b : List ℕ) (from : ℕ) → number (drop checked_bytes (take block_bytes (drop from b))) ≡ word_at b (from + 508)
check_at b from =
    ap number (drop_take 508 512 (drop from b) ∙ ap (take 4) (drop-drop 508 from b))
    ∙ number_four (drop (from + 508) b)
    ∙ go (drop (from + 508) b) (λ m. get_or-drop (from + 508) b m 0)
  where
    go : (l : List ℕ) → ((m : ℕ) → get_or l m 0 ≡ get_or b (from + 508 + m) 0) → get_or l 0 0 + 256 * (get_or l 1 0 + 256 * (get_or l 2 0 + 256 * get_or l 3 0)) ≡ word_at b (from + 508)
    go l e = let z : from + 508 + 0 ≡ from + 508 = omega arith in rw (e 0, e 1, e 2, e 3, z)

module _ (b : List ℕ) (k : ℕ) where
  pub checked_there : {sum check : ℕ} → k < length b / 512 → sum ≡ weighed 1 (take 508 (take (512 * k + 508 - 512 * k) (drop (512 * k) b))) → check ≡ word_at b (512 * k + 508)
      → eqb check ((k + sum) % 65521) ≡ block_checked b k
  unfolding block_checked checked check_word block_count
  checked_there {sum} {check} h s c =
      let z : 512 * k + 508 - 512 * k ≡ 508 = omega arith in
      let d = drop (512 * k) b in
      let t : take 508 (take (512 * k + 508 - 512 * k) d) ≡ take 508 (take 512 d) = ap (λ n. take 508 (take n d)) z ∙ take-take 508 508 d (omega arith) ∙ sym (take-take 508 512 d (omega arith)) in
      rw (lt-ltb k (length b / 512) h)
      (ap₂ (λ x y. eqb x ((k + y) % 65521)) (c ∙ sym (check_at b (512 * k))) (s ∙ ap (weighed 1) t))

  pub checked_past : length b / 512 ≤ k → false ≡ block_checked b k
  unfolding block_checked block_count
  checked_past h = rw (le-ltb k (length b / 512) h)
