-- Pairs of lent words written into the table, after their count.
use Prim.Native.Nat.{ℕ, ◌+◌, ◌*◌, ◌≤◌, ◌<◌}
use mathlib.Core.Path.{◌≡◌, refl, sym, ap, ap₂, ◌∙◌}
use mathlib.Core.List.{List, [], ◌∷◌}
use native.Mathlib.Omega.{arith}
use lib.ListN.{length, get_or}
use Rattle.lists.specs.Lists.{concat_map}
use Rattle.lists.specs.ListLaws.{length_concat_map}
use Rattle.sheet.specs.Encode.{encode_pair}
use Rattle.region.specs.Region.{Frame}
use Rattle.writing.specs.Writing.{written, words_of, Writes}
use Rattle.writing.specs.WritingLaws.{written_then, written_length, writes_start, writes_next, writes_end, writes_length}
use Rattle.table.specs.Records.{by_name}
use Rattle.table_name_sort.specs.Merge.{pairs_at}
use Rattle.table_name_sort.specs.PairLaws.{pairs_length, pairs_at_lem}
use Rattle.table_names.specs.Names.{pair_words}
use Rattle.table_name_sort.specs.Steps.{Room, Sorted}

-- ── the count ──

-- the slice keeps its length
pub pushed_one : (w v : List ℕ) (at x : ℕ) → at < length w → v ≡ written w at (x ∷ []) → length v ≡ length w
pushed_one w v at x h e = ap length e ∙ written_length w at (x ∷ []) (omega arith)

-- ── some pairs ──

pair_length : (p : ℕ × ℕ) → length (encode_pair p) ≡ 2
unfolding encode_pair
pair_length p = refl

pub words_length : (xs : List (ℕ × ℕ)) → length (words_of encode_pair xs) ≡ 2 * length xs
unfolding words_of
words_length xs = length_concat_map encode_pair 2 pair_length xs

pub record Pushes (w t v : List ℕ) (a n at i p : ℕ) : Type 0 where
  pub few : i ≤ n
  pub writes : Writes encode_pair (pairs_at w a n) t at i v p
  pub place : p ≡ at + 2 * i
  pub len : length v ≡ length t

module _ (w t : List ℕ) (a n at : ℕ) (h : at + 2 * n ≤ length t) where
  all_fit : at + length (words_of encode_pair (pairs_at w a n)) ≤ length t
  all_fit = omega (arith, words_length (pairs_at w a n), pairs_length w a n)

  pub pushes_start : Pushes w t t a n at 0 at
  pushes_start = record { few = omega arith; writes = writes_start encode_pair (pairs_at w a n) t at; place = omega arith; len = refl }

  module _ (v : List ℕ) (i p : ℕ) (s : Pushes w t v a n at i p) where
    pub pushes_next : (u : List ℕ) (q : ℕ) → i < n → u ≡ written v p (encode_pair (get_or w (a + 2 * i) 0, get_or w (a + 2 * i + 1) 0)) → q ≡ p + 2 → Pushes w t u a n at (i + 1) q
    pushes_next u q l e f =
        let g : get_or (pairs_at w a n) i (0, 0) ≡ (get_or w (a + 2 * i) 0, get_or w (a + 2 * i + 1) 0) = pairs_at_lem w a n i (0, 0) l in
        let z = writes_next encode_pair (pairs_at w a n) t at i v p u q (0, 0) (omega arith) (omega (arith, pairs_length w a n)) s.writes
        (e ∙ ap (λ x. written v p (encode_pair x)) (sym g)) (omega (arith, pair_length (get_or (pairs_at w a n) i (0, 0)))) in
        record { few = omega arith; writes = z; place = omega (arith, s.place); len = writes_length encode_pair (pairs_at w a n) t at (i + 1) u q z all_fit }

    pub pushes_end : n ≤ i → v ≡ written t at (words_of encode_pair (pairs_at w a n))
    pushes_end l = writes_end encode_pair (pairs_at w a n) t at i v p s.writes (omega (arith, s.few, pairs_length w a n))

    pub pushes_room : i < n → p + 1 < length v
    pushes_room l = omega (arith, s.place, s.len)

-- ── a count, and as many pairs ──

pub counted_length : (xs : List (ℕ × ℕ)) → length (pair_words xs) ≡ 1 + 2 * length xs
unfolding pair_words
counted_length xs = omega (arith, length_concat_map encode_pair 2 pair_length xs)

pub counted : (w t v u : List ℕ) (a n at p : ℕ) → at + 1 + 2 * n ≤ length t → v ≡ written t at (n ∷ []) → p ≡ at + 1 → u ≡ written v p (words_of encode_pair (pairs_at w a n)) →
    u ≡ written t at (pair_words (pairs_at w a n))
unfolding pair_words words_of
counted w t v u a n at p h e i f =
    f
    ∙ ap₂ (λ l k. written l k (concat_map encode_pair (pairs_at w a n))) e i
    ∙ written_then t at (n ∷ []) (concat_map encode_pair (pairs_at w a n)) (omega arith)
    ∙ ap (λ k. written t at (k ∷ concat_map encode_pair (pairs_at w a n))) (sym (pairs_length w a n))

-- ── sorted pairs ──

module _ (w v : List ℕ) (a n b r : ℕ) (s : Sorted w v a n b r) where
  sorted_length : length (pair_words (by_name (pairs_at w a n))) ≡ 1 + 2 * r
  sorted_length = omega (arith, counted_length (by_name (pairs_at w a n)), s.count)

  pub sorted_in : Room w a n b → n < 4294967296 → (a + 2 * r ≤ length v) × (r < 4294967296)
  sorted_in m h = (omega (arith, m.a_in, s.frame.len, s.few), omega (arith, s.few))

  pub sorted_room : (end at : ℕ) → at + length (pair_words (by_name (pairs_at w a n))) ≤ end → at + 1 + 2 * r ≤ end
  sorted_room end at h = omega (arith, sorted_length)

  pub sorted_written : (t u : List ℕ) (at : ℕ) → u ≡ written t at (pair_words (pairs_at v a r)) → u ≡ written t at (pair_words (by_name (pairs_at w a n)))
  sorted_written t u at e = e ∙ ap (λ l. written t at (pair_words l)) s.pairs

  pub sorted_place : (at q : ℕ) → q ≡ at + 1 + 2 * r → q ≡ at + length (pair_words (by_name (pairs_at w a n)))
  sorted_place at q e = omega (arith, sorted_length)

  pub sorted_frame : a ≤ b → Frame (λ k. k < a) w v
  sorted_frame h = record { len = s.frame.len; same = λ k l. s.frame.same k ((λ x y. omega arith), (λ x y. omega arith)) }
