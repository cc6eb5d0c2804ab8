-- What it says that words are a linked table, what is read of a span, and that the span of a holds t.
use Rattle.std.specs.Prelude.{ℕ, ◌+◌, ◌*◌, ◌≤◌, ◌<◌, ◌≡◌, List, Bool, true, false, ◌&&◌, eqb, leb, ltb, length, get_or}
use Rattle.std.proofs.Math.Path.{refl, sym}
use Rattle.std.proofs.Common.{ap, ◌∙◌, arith}
use Rattle.std.proofs.Math.Bool.{cond}
use borrow.Author.Tests.{leb-true, le-leb, ltb-true, lt-ltb, le-ltb}
use Rattle.lists.specs.ListLaws.{both, and_first, and_second}
use Rattle.table.specs.Table.{table_edition, header_words}
use Rattle.descends.specs.Descends.{table_length, spans_start, span_count, spans_end, is_linked}
use Rattle.descends.specs.Descends.{pre_in, post_in, length_in, if_known, is_within}

-- a linked table has a header, and room for its spans
pub record Linked (ws : List ℕ) : Type 0 where
  pub header : header_words ≤ length ws
  pub room : spans_start ws + 1 + 3 * span_count ws ≤ length ws

pub linked : (ws : List ℕ) → is_linked ws ≡ true → Linked ws
unfolding is_linked spans_end
linked ws h =
    let header = leb header_words (length ws) in
    let edition = eqb (get_or ws 0 0) table_edition in
    let whole = leb (table_length ws) (length ws) in
    let begins = leb header_words (spans_start ws) in
    let ends = leb (spans_start ws + 1 + 3 * span_count ws) (table_length ws) in
    let front = and_first (header && edition && whole && begins) ends h in
    let three = and_first (header && edition && whole) begins front in
    let inside = leb-true (table_length ws) (length ws) (and_second (header && edition) whole three) in
    let last = and_second (header && edition && whole && begins) ends h in
    record {
      header = leb-true header_words (length ws) (and_first header edition (and_first (header && edition) whole three));
      room = omega (arith, inside, leb-true (spans_start ws + 1 + 3 * span_count ws) (table_length ws) last);
    }

-- ── reading a span ──

module _ (ws : List ℕ) (a : ℕ) {start : ℕ} (s : start ≡ spans_start ws) {x : ℕ} where
  -- word k + 1 behind the count
  word_is : (k : ℕ) {i : ℕ} → i ≡ start + k + 3 * a → x ≡ get_or ws i 0 → x ≡ get_or ws (spans_start ws + k + 3 * a) 0
  word_is k p e = e ∙ ap (λ j. get_or ws j 0) (p ∙ omega (arith, s))

  pub pre_is : x ≡ get_or ws (start + 1 + 3 * a) 0 → x ≡ pre_in ws a
  unfolding pre_in
  pre_is e = word_is 1 refl e

  pub post_is : x ≡ get_or ws (start + 1 + 3 * a + 1) 0 → x ≡ post_in ws a
  unfolding post_in
  post_is e = word_is 2 (omega arith) e

  pub length_is : x ≡ get_or ws (start + 3 + 3 * a) 0 → x ≡ length_in ws a
  unfolding length_in
  length_is e = word_is 3 refl e

-- ── the number of a type, or another ──

module _ (ws : List ℕ) (a x : ℕ) {count : ℕ} (c : count ≡ span_count ws) where
  pub known_is : a < count → x ≡ if_known ws a x
  unfolding if_known
  known_is h = sym (ap (λ b. cond b x 0) (lt-ltb a (span_count ws) (omega (arith, c))))

  pub unknown_is : count ≤ a → 0 ≡ if_known ws a x
  unfolding if_known
  unknown_is h = sym (ap (λ b. cond b x 0) (le-ltb a (span_count ws) (omega (arith, c))))

-- ── what a span holds ──

pub record Within (ws : List ℕ) (t a : ℕ) : Type 0 where
  pub first : t < span_count ws
  pub second : a < span_count ws
  pub low : pre_in ws a ≤ pre_in ws t
  pub high : pre_in ws t < post_in ws a

module _ (ws : List ℕ) (t a : ℕ) where
  abbrev known : Bool
  known = ltb t (span_count ws) && ltb a (span_count ws)

  abbrev begins : Bool
  begins = leb (pre_in ws a) (pre_in ws t)

  abbrev lasts : Bool
  lasts = ltb (pre_in ws t) (post_in ws a)

  pub within_is : is_within ws t a ≡ true → Within ws t a
  unfolding is_within
  within_is h =
      let front = and_first (known && begins) lasts h in
      let numbers = and_first known begins front in
      record {
        first = ltb-true t (span_count ws) (and_first (ltb t (span_count ws)) (ltb a (span_count ws)) numbers);
        second = ltb-true a (span_count ws) (and_second (ltb t (span_count ws)) (ltb a (span_count ws)) numbers);
        low = leb-true (pre_in ws a) (pre_in ws t) (and_second known begins front);
        high = ltb-true (pre_in ws t) (post_in ws a) (and_second (known && begins) lasts h);
      }

  pub is_within_lem : Within ws t a → is_within ws t a ≡ true
  unfolding is_within
  is_within_lem w = both (both (both
      (lt-ltb t (span_count ws) w.first)
      (lt-ltb a (span_count ws) w.second))
      (le-leb (pre_in ws a) (pre_in ws t) w.low))
      (lt-ltb (pre_in ws t) (post_in ws a) w.high)

  pub not_within : (Within ws t a → ⊥) → is_within ws t a ≡ false
  not_within n = go (is_within ws t a) refl
    where
      go : (b : Bool) → is_within ws t a ≡ b → is_within ws t a ≡ false
      go true e = absurd (n (within_is e))
      go false e = e
