-- Places of references among value types, their count written last.
use Prim.Native.Nat.{ℕ, zero, suc, ◌+◌, ◌-◌, ◌*◌, ◌≤◌, ◌<◌, min}
use mathlib.Core.Path.{◌≡◌, refl, sym, ap, ap₂, ◌∙◌}
use mathlib.Core.List.{List, [], ◌∷◌, ◌++◌, map}
use mathlib.Core.Bool.{Bool, true, false, cond}
use native.Mathlib.Omega.{arith}
use lib.ListN.{length, get_or, length-map}
use borrow.Author.Tests.{le-leb, lt-leb}
use Rattle.lists.specs.Lists.{concat_map, from, places_from}
use Rattle.lists.specs.ListLaws.{length_from, places_from_few}
use Rattle.blocks.specs.Blocks.{words}
use Rattle.blocks.specs.Frame.{first_words}
use Rattle.reader.specs.Reader.{encode_words}
use Rattle.reader.specs.Value.{Whole, value_of}
use Rattle.reader.specs.ValueLaws.{whole_inv, value_got}
use Rattle.sheet.specs.Module.{ValueType, basic, ref, dyn, value_word, is_reference}
use Rattle.sheet.specs.Decode.{value_type}
use Rattle.table.specs.Records.{references}
use Rattle.rule6_registers.specs.ValueWords.{value_word_lem}
use Rattle.writing.specs.Writing.{written, words_of, Writes}
use Rattle.writing.specs.WritingLaws.{written_none, writes_start, writes_next, writes_room, writes_length, writes_end, writes_place}
use Rattle.writing.specs.CountedLaws.{count_last}
use Rattle.table_values.specs.Values.{values_at, place_words}
use Rattle.table_values.specs.ValuesLaws.{values_length}

-- ── one value type ──

below_reference : (v : ValueType) {c : ℕ} → c ≡ value_word v → c < 11 → is_reference v ≡ false
unfolding value_word is_reference
below_reference (basic k) e h = lt-leb 11 k (omega arith)
below_reference (ref t) e h = absurd (omega arith)

from_reference : (v : ValueType) {c : ℕ} → c ≡ value_word v → 11 ≤ c → is_reference v ≡ true
unfolding value_word is_reference
from_reference (basic k) e h = le-leb 11 k (omega arith)
from_reference (ref t) e h = refl

module _ (b : List ℕ) (m q most i : ℕ) (h : Whole (value_type (first_words b m) q)) {c : ℕ} (e : c ≡ get_or (words b) q 0) where
  pub place_none : c < 11 → place_words most i (value_of dyn (value_type (first_words b m) q)) ≡ []
  unfolding place_words
  place_none l = whole_inv (value_type (first_words b m) q) h λ v r g.
      ap (λ t. cond t (min most i ∷ []) []) (ap is_reference (value_got dyn g) ∙ below_reference v (e ∙ value_word_lem b m q g) l)

  pub place_one : 11 ≤ c → place_words most i (value_of dyn (value_type (first_words b m) q)) ≡ min most i ∷ []
  unfolding place_words
  place_one l = whole_inv (value_type (first_words b m) q) h λ v r g.
      ap (λ t. cond t (min most i ∷ []) []) (ap is_reference (value_got dyn g) ∙ from_reference v (e ∙ value_word_lem b m q g) l)

  module _ (w : List ℕ) (p : ℕ) where
    pub none_written : c < 11 → w ≡ written w p (place_words most i (value_of dyn (value_type (first_words b m) q)))
    none_written l = sym (ap (written w p) (place_none l) ∙ written_none w p)

    pub none_place : c < 11 → p ≡ p + length (place_words most i (value_of dyn (value_type (first_words b m) q)))
    none_place l = omega (arith, ap length (place_none l))

    pub one_room : 11 ≤ c → p + length (place_words most i (value_of dyn (value_type (first_words b m) q))) ≤ length w → p < length w
    one_room l r = omega (arith, ap length (place_one l))

    pub one_written : {y : ℕ} {v : List ℕ} → 11 ≤ c → y ≡ min most i → v ≡ written w p (y ∷ []) → v ≡ written w p (place_words most i (value_of dyn (value_type (first_words b m) q)))
    one_written l z k = k ∙ ap (λ y. written w p (y ∷ [])) z ∙ ap (written w p) (sym (place_one l))

    pub one_place : {p' : ℕ} → 11 ≤ c → p' ≡ p + 1 → p' ≡ p + length (place_words most i (value_of dyn (value_type (first_words b m) q)))
    one_place l k = omega (arith, ap length (place_one l))

-- ── all of them ──

-- the words of number i
unfoldable pub place_at : ℕ → List ℕ → ℕ → ℕ → ℕ → List ℕ
place_at most ws first stride i = place_words most i (value_of dyn (value_type ws (first + stride * i)))

-- the numbers whose member passes the test, one by one
places_by : {A : Type 0} (test : A → Bool) (g : ℕ → A) (f : ℕ → ℕ) (k n : ℕ) → concat_map (λ i. cond (test (g i)) (f i ∷ []) []) (from k n) ≡ map f (places_from k test (map g (from k n)))
places_by test g f k zero = refl
places_by test g f k (suc n) = go (test (g k)) (places_from (suc k) test (map g (from (suc k) n))) (places_by test g f (suc k) n)
  where
    go : (t : Bool) (l : List ℕ) {r : List ℕ} → r ≡ map f l → cond t (f k ∷ []) [] ++ r ≡ map f (cond t (k ∷ l) l)
    go true l e = ap (λ y. f k ∷ y) e
    go false l e = e

get_d_from : (k n i : ℕ) → i < n → get_or (from k n) i 0 ≡ k + i
get_d_from k zero i h = absurd (omega arith)
get_d_from k (suc n) zero h = omega arith
get_d_from k (suc n) (suc i) h = get_d_from (suc k) n i (omega arith) ∙ omega arith

module _ (most : ℕ) (ws : List ℕ) (first stride n : ℕ) where
  -- the places of the references, none above most
  unfoldable pub placed : List ℕ
  placed = map (min most) (references (values_at ws first stride n))

  placed_words : words_of (place_at most ws first stride) (from 0 n) ≡ placed
  unfolding words_of place_at place_words placed references values_at
  placed_words = places_by is_reference (λ i. value_of dyn (value_type ws (first + stride * i))) (min most) 0 n

  pub placed_few : length placed ≤ n
  unfolding placed references
  placed_few =
      omega (arith, length-map (references (values_at ws first stride n)) (min most), places_from_few is_reference 0 (values_at ws first stride n), values_length ws first stride n)

  -- the words of the first i numbers are written from at + 1 on
  pub record Places (w : List ℕ) (at i : ℕ) (v : List ℕ) (p : ℕ) : Type 0 where
    pub few : i ≤ n
    pub writes : Writes (place_at most ws first stride) (from 0 n) w (at + 1) i v p

  pub places_start : (w : List ℕ) (at : ℕ) → Places w at 0 w (at + 1)
  places_start w at = record { few = omega arith; writes = writes_start (place_at most ws first stride) (from 0 n) w (at + 1) }

  module _ (w : List ℕ) (at : ℕ) (h : at + length (encode_words (map (min most) (references (values_at ws first stride n)))) ≤ length w) where
    room : at + 1 + length (words_of (place_at most ws first stride) (from 0 n)) ≤ length w
    unfolding placed
    room = omega (arith, ap length placed_words)

    module _ (i : ℕ) (v : List ℕ) (p : ℕ) (x : Places w at i v p) where
      pub places_kept : length v ≡ length w
      places_kept = writes_length (place_at most ws first stride) (from 0 n) w (at + 1) i v p x.writes room

      module _ (l : i < n) where
        here : place_at most ws first stride (get_or (from 0 n) i 0) ≡ place_words most i (value_of dyn (value_type ws (first + stride * i)))
        unfolding place_at
        here = let z : get_or (from 0 n) i 0 ≡ i = get_d_from 0 n i l ∙ omega arith in ap (place_at most ws first stride) z

        inside : i < length (from 0 n)
        inside = omega (arith, length_from 0 n)

        pub places_room : p + length (place_words most i (value_of dyn (value_type ws (first + stride * i)))) ≤ length v
        places_room = omega (arith, writes_room (place_at most ws first stride) (from 0 n) w (at + 1) i v p 0 x.writes inside room, ap length here)

        pub places_next : {v' : List ℕ} {p' : ℕ} → v' ≡ written v p (place_words most i (value_of dyn (value_type ws (first + stride * i))))
            → p' ≡ p + length (place_words most i (value_of dyn (value_type ws (first + stride * i)))) → Places w at (i + 1) v' p'
        places_next {v'} {p'} e k = record {
          few = omega arith;
          writes = writes_next (place_at most ws first stride) (from 0 n) w (at + 1) i v p v' p' 0 (omega (arith, room)) inside x.writes
              (e ∙ ap (written v p) (sym here)) (k ∙ ap (λ y. p + length y) (sym here));
        }

      pub places_after : at + 1 ≤ p
      places_after = omega (arith, x.writes.end)

      module _ (l : n ≤ i) where
        all_passed : i ≡ length (from 0 n)
        all_passed = omega (arith, x.few, length_from 0 n)

        pub places_place : p ≡ at + length (encode_words (map (min most) (references (values_at ws first stride n))))
        unfolding placed
        places_place = omega (arith, writes_place (place_at most ws first stride) (from 0 n) w (at + 1) i v p x.writes all_passed, ap length placed_words)

        pub places_few : p - at - 1 ≤ n
        unfolding placed
        places_few = omega (arith, places_place, placed_few)

        pub places_end : {v' : List ℕ} → v' ≡ written v at ((p - at - 1) ∷ []) → v' ≡ written w at (encode_words (map (min most) (references (values_at ws first stride n))))
        unfolding placed
        places_end e =
            let c : p - at - 1 ≡ length (map (min most) (references (values_at ws first stride n))) = omega (arith, places_place) in
            e
            ∙ ap₂ (λ u k. written u at (k ∷ [])) (writes_end (place_at most ws first stride) (from 0 n) w (at + 1) i v p x.writes all_passed ∙ ap (written w (at + 1)) placed_words) c
            ∙ count_last w at (map (min most) (references (values_at ws first stride n))) (length (map (min most) (references (values_at ws first stride n)))) (omega (arith, h))
