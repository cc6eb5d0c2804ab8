-- For the code that finds a frame: its two loops, and one law for each return.
use Prim.Native.Nat.{ℕ, suc, ◌+◌, ◌-◌, ◌*◌, ◌/◌, ◌%◌, ◌≤◌, ◌<◌}
use mathlib.Core.Path.{◌≡◌, refl, sym, ap, ap₂, ◌∙◌}
use mathlib.Core.List.{List, ◌∷◌}
use mathlib.Core.Bool.{Bool, true, false, ◌&&◌}
use Rattle.std.specs.Prelude.{Option, None, Some}
use native.Mathlib.Omega.{arith}
use native.Mathlib.Numerals.{add-one}
use lib.Dec.{eqb}
use lib.ListN.{length, get_or, take, drop, drop_of_length-le}
use lib.Seq.{drop-cons, drop-drop, length-take-le}
use borrow.Author.Tests.{lt-ltb, le-leb, eq-eqb, ne_eqb}
use Rattle.lists.specs.Lists.{all_of, pieces}
use Rattle.lists.specs.ListLaws.{both}
use Rattle.std.specs.Prelude.{None, Some}
use Rattle.blocks.specs.Blocks.{block_bytes, checked, block_count, blocks, all_checked, words, edition_word, is_edition, length_word}
use Rattle.blocks.specs.Blocks.{framed}
use Rattle.blocks.specs.Frame.{frame_of, block_checked, zero_from}
use Rattle.blocks.specs.WordLaws.{length_words}
use Rattle.blocks.proofs.FramedLaws.{Intact, edition_range, framed_intact, intact_framed}

-- ── every block ──

-- the blocks from k on give the answer
pub record Checks (b : List ℕ) (k : ℕ) : Type 0 where
  pub same : all_checked 0 (blocks b) ≡ all_checked k (pieces block_bytes (length b / 512 - k) (drop (block_bytes * k) b))

module _ (b : List ℕ) where
  pub checks_start : Checks b 0
  unfolding blocks block_count
  checks_start = let z : length b / 512 - 0 ≡ length b / 512 = omega arith in record { same = ap (λ n. all_checked 0 (pieces block_bytes n b)) (sym z) }

  -- one block more
  checks_turn : (k : ℕ) {r : Bool} → Checks b k → k < length b / 512 → r ≡ block_checked b k
      → all_checked 0 (blocks b) ≡ (r && all_checked (suc k) (pieces block_bytes (length b / 512 - suc k) (drop (block_bytes * suc k) b)))
  unfolding all_checked block_checked block_count
  checks_turn k {r} s h e =
      let left = length b / 512 - suc k in
      let z : length b / 512 - k ≡ suc left = omega arith in
      let y : 512 * k + 512 ≡ 512 * suc k = omega arith in
      let d : drop 512 (drop (512 * k) b) ≡ drop (512 * suc k) b = drop-drop 512 (512 * k) b ∙ ap (λ n. drop n b) y in
      let there : r ≡ checked k (take 512 (drop (512 * k) b)) = e ∙ rw (lt-ltb k (length b / 512) h) in
      s.same
      ∙ ap (λ n. all_checked k (pieces block_bytes n (drop (block_bytes * k) b))) z
      ∙ ap₂ (λ x l. x && all_checked (suc k) (pieces block_bytes left l)) (sym there) d

  pub checks_next : (k : ℕ) {r : Bool} → Checks b k → k < length b / 512 → r ≡ true → r ≡ block_checked b k → Checks b (k + 1)
  checks_next k s h t e = record {
    same =
        checks_turn k s h e
        ∙ ap (λ x. x && all_checked (suc k) (pieces block_bytes (length b / 512 - suc k) (drop (block_bytes * suc k) b))) t
        ∙ ap (λ n. all_checked n (pieces block_bytes (length b / 512 - n) (drop (block_bytes * n) b))) (sym (add-one k));
  }

  pub checks_stop : (k : ℕ) {r : Bool} → Checks b k → k < length b / 512 → r ≡ false → r ≡ block_checked b k → false ≡ all_checked 0 (blocks b)
  checks_stop k s h f e = sym (checks_turn k s h e ∙ rw f)

  pub checks_end : (k : ℕ) → Checks b k → length b / 512 ≤ k → true ≡ all_checked 0 (blocks b)
  unfolding all_checked
  checks_end k s h = let z : length b / 512 - k ≡ 0 = omega arith in sym (s.same ∙ rw z)

pub ruleset checking = (checks_start, checks_next, checks_stop, checks_end)

-- ── the words after N ──

-- the words from i on give the answer
pub record Zeros (b : List ℕ) (n i : ℕ) : Type 0 where
  pub same : zero_from (words b) n ≡ zero_from (words b) i

module _ (b : List ℕ) (n : ℕ) where
  pub zeros_start : Zeros b n n
  zeros_start = record { same = refl }

  -- one word more
  zeros_turn : (i : ℕ) → Zeros b n i → i < 127 * (length b / 512) → zero_from (words b) n ≡ (eqb 0 (get_or (words b) i 0) && zero_from (words b) (i + 1))
  unfolding zero_from block_count
  zeros_turn i s h = s.same ∙ ap (all_of (eqb 0)) (drop-cons (words b) i 0 (omega (arith, length_words b)) ∙ ap (λ m. get_or (words b) i 0 ∷ drop m (words b)) (sym (add-one i)))

  pub zeros_next : (i : ℕ) {w : ℕ} → Zeros b n i → i < 127 * (length b / 512) → w ≡ 0 → w ≡ get_or (words b) i 0 → Zeros b n (i + 1)
  zeros_next i s h z e = record { same = zeros_turn i s h ∙ rw (eq-eqb 0 (get_or (words b) i 0) (omega arith)) }

  pub zeros_stop : (i : ℕ) {w : ℕ} → Zeros b n i → i < 127 * (length b / 512) → (w ≡ 0 → ⊥) → w ≡ get_or (words b) i 0 → false ≡ zero_from (words b) n
  zeros_stop i {w} s h z e = sym (zeros_turn i s h ∙ rw (ne_eqb 0 (get_or (words b) i 0) (λ y. z (e ∙ sym y))))

  pub zeros_end : (i : ℕ) → Zeros b n i → 127 * (length b / 512) ≤ i → true ≡ zero_from (words b) n
  unfolding zero_from block_count
  zeros_end i s h = sym (s.same ∙ ap (all_of (eqb 0)) (drop_of_length-le (words b) {i = i} (omega (arith, length_words b))))

pub ruleset zeroing = (zeros_start, zeros_next, zeros_stop, zeros_end)

-- ── the frame ──

module _ (newest : ℕ) (b : List ℕ) where
  broken_if : (Intact newest b (block_count b) → ⊥) → None ≡ frame_of (framed newest b)
  unfolding frame_of
  broken_if f = go (framed newest b) refl
    where
      go : (o : Option (List ℕ)) → framed newest b ≡ o → None ≡ frame_of o
      go None e = refl
      go (Some ws) e = absurd (f (framed_intact newest b ws e).0)

  pub frame_ragged : (length b % 512 ≡ 0 → ⊥) → None ≡ frame_of (framed newest b)
  frame_ragged h = broken_if λ i. h (omega (arith, i.length_is))

  pub frame_empty : length b / 512 < 1 → None ≡ frame_of (framed newest b)
  unfolding block_count
  frame_empty h = broken_if λ i. omega (arith, i.some_block)

  pub frame_long : 4096 < length b / 512 → None ≡ frame_of (framed newest b)
  unfolding block_count
  frame_long h = broken_if λ i. omega (arith, i.few_blocks)

  pub frame_unchecked : {r : Bool} → r ≡ false → r ≡ all_checked 0 (blocks b) → None ≡ frame_of (framed newest b)
  unfolding blocks
  frame_unchecked f e = broken_if λ i. let t = i.all_checked_lem in let z : ◌≡◌ {A = ℕ} 0 1 = cc in omega arith

  pub frame_early_edition : {w : ℕ} → w < 1 → w ≡ get_or (words b) 0 0 → None ≡ frame_of (framed newest b)
  unfolding edition_word
  frame_early_edition h e = broken_if λ i. omega (arith, (edition_range newest (get_or (words b) 0 0) i.edition_known).0)

  pub frame_late_edition : {w : ℕ} → newest < w → w ≡ get_or (words b) 0 0 → None ≡ frame_of (framed newest b)
  unfolding edition_word
  frame_late_edition h e = broken_if λ i. omega (arith, (edition_range newest (get_or (words b) 0 0) i.edition_known).1)

  pub frame_early : {n : ℕ} → n ≤ 127 * (length b / 512 - 1) → n ≡ get_or (words b) 1 0 → None ≡ frame_of (framed newest b)
  unfolding block_count length_word
  frame_early h e = broken_if λ i. omega (arith, i.past_block)

  pub frame_late : {n : ℕ} → 127 * (length b / 512) < n → n ≡ get_or (words b) 1 0 → None ≡ frame_of (framed newest b)
  unfolding block_count length_word
  frame_late h e = broken_if λ i. omega (arith, i.in_block)

  pub frame_filled : {n : ℕ} {z : Bool} → z ≡ false → z ≡ zero_from (words b) n → n ≡ get_or (words b) 1 0 → None ≡ frame_of (framed newest b)
  unfolding zero_from length_word
  frame_filled {n} f e k = broken_if λ i. let t : zero_from (words b) n ≡ true = ap (λ m. all_of (eqb 0) (drop m (words b))) k ∙ i.zero_after in let z : ◌≡◌ {A = ℕ} 0 1 = cc in omega arith

  pub frame_intact : {n w : ℕ} {r z : Bool} → length b % 512 ≡ 0 → 1 ≤ length b / 512 → length b / 512 ≤ 4096 → r ≡ true → r ≡ all_checked 0 (blocks b)
      → 1 ≤ w → w ≤ newest → w ≡ get_or (words b) 0 0 → n ≡ get_or (words b) 1 0 → 127 * (length b / 512 - 1) < n →
      n ≤ 127 * (length b / 512) → z ≡ true → z ≡ zero_from (words b) n
      → Some n ≡ frame_of (framed newest b)
  unfolding frame_of blocks block_count length_word zero_from is_edition edition_word
  frame_intact {n} h₁ h₂ h₃ t₄ e₄ t₅ s₅ e₅ e h₆ h₇ t₈ e₈ =
      let i : Intact newest b (length b / 512) = record {
        length_is = omega arith;
        some_block = h₂;
        few_blocks = h₃;
        all_checked_lem = sym e₄ ∙ t₄;
        edition_known = both (le-leb 1 (get_or (words b) 0 0) (omega arith)) (le-leb (get_or (words b) 0 0) newest (omega arith));
        past_block = omega arith;
        in_block = omega arith;
        zero_after = ap (λ m. all_of (eqb 0) (drop m (words b))) (sym e) ∙ sym e₈ ∙ t₈;
      } in
      sym (ap frame_of (intact_framed newest b i)
      ∙ ap Some (length-take-le (get_or (words b) 1 0) (words b) (omega (arith, length_words b)) ∙ sym e))

pub ruleset framing = (
  frame_ragged,
  frame_empty,
  frame_long,
  frame_unchecked,
  frame_early_edition,
  frame_late_edition,
  frame_early,
  frame_late,
  frame_filled,
  frame_intact,
)
