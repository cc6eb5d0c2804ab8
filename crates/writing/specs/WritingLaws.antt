-- Laws of words written into a lent slice.
use Rattle.std.specs.Prelude.{◌≡◌, refl, List, [], ◌∷◌, ◌++◌, ℕ, suc, ◌+◌, ◌-◌, ◌≤◌, ◌<◌, get_or, take, set}
use Rattle.std.proofs.Math.Path.{sym, ap}
use Rattle.std.proofs.Common.{ap₂, ◌∙◌, append-nil, add-one, length-take, take-append-drop, take-suc, get_or-append-add, get_or-take, get_or-drop, ext_get_or}
use native.Mathlib.Omega.{arith}
use Rattle.std.proofs.Math.Decide.{dec_lt}
use Rattle.std.proofs.Math.ListN.{length, drop, length-append, get_or-append}
use Rattle.std.proofs.Math.Seq.{paste-zero, take-length, append_snoc}
use Rattle.std.proofs.lemmas.List.Edits.{length-paste}
use Rattle.std.proofs.lemmas.List.{set_split}
use Rattle.lists.specs.Lists.{concat_map}
use Rattle.lists.specs.ListLaws.{concat_map_append}
use Rattle.lists.specs.PasteLaws.{paste_paste}
use Rattle.region.specs.Region.{Off, Frame}
use Rattle.writing.specs.Writing.{written, words_of, Writes}

pub written_none : (w : List ℕ) (at : ℕ) → written w at [] ≡ w
unfolding written
written_none w at = sym (paste-zero w at [])

-- one word, as a store leaves it
pub written_one : (w : List ℕ) (at x : ℕ) → at < length w → set w at x ≡ written w at (x ∷ [])
unfolding written
written_one w at x h = set_split w at x h ∙ sym (append_snoc (take at w) x (drop (suc at) w)) ∙ ap (λ k. (take at w ++ (x ∷ [])) ++ drop k w) (sym (add-one at))

-- writes side by side are one
pub written_then : (w : List ℕ) (at : ℕ) (xs ys : List ℕ) → at ≤ length w → written (written w at xs) (at + length xs) ys ≡ written w at (xs ++ ys)
unfolding written
written_then w at xs ys h = paste_paste w at xs ys h

pub written_length : (w : List ℕ) (at : ℕ) (xs : List ℕ) → at + length xs ≤ length w → length (written w at xs) ≡ length w
unfolding written
written_length w at xs h = length-paste w at xs (length xs) h (omega arith)

-- ── a write and the next ──

module _ (w : List ℕ) (at : ℕ) (xs ys : List ℕ) (h : at + length (xs ++ ys) ≤ length w) where
  pub join_first : at + length xs ≤ length w
  join_first = omega (arith, length-append xs ys)

  module _ (v : List ℕ) (p : ℕ) (e : v ≡ written w at xs) (k : p ≡ at + length xs) where
    pub join_room : p + length ys ≤ length v
    join_room = omega (arith, length-append xs ys, ap length e, written_length w at xs join_first)

    pub join_written : {u : List ℕ} → u ≡ written v p ys → u ≡ written w at (xs ++ ys)
    join_written i = i ∙ ap₂ (λ l q. written l q ys) e k ∙ written_then w at xs ys (omega (arith, join_first))

    pub join_place : {q : ℕ} → q ≡ p + length ys → q ≡ at + length (xs ++ ys)
    join_place i = omega (arith, length-append xs ys)

-- three words, one after the other
pub written_three : (w : List ℕ) (at a b c : ℕ) {v u z : List ℕ} {p q : ℕ} → at + 3 ≤ length w → v ≡ written w at (a ∷ []) → p ≡ at + 1
    → u ≡ written v p (b ∷ []) → q ≡ p + 1 → z ≡ written u q (c ∷ []) → z ≡ written w at (a ∷ b ∷ c ∷ [])
written_three w at a b c {v} {u} {z} {p} {q} h e k f l g =
    let two : u ≡ written w at (a ∷ b ∷ []) = join_written w at (a ∷ []) (b ∷ []) (omega arith) v p e k f in
    join_written w at (a ∷ b ∷ []) (c ∷ []) (omega arith) u q two (omega arith) g

-- ── word by word ──

module _ (w : List ℕ) (at : ℕ) (xs : List ℕ) (h : at + length xs ≤ length w) where
  front : written w at xs ≡ (take at w ++ xs) ++ drop (at + length xs) w
  unfolding written
  front = ap (λ l. (take at w ++ l) ++ drop (at + length xs) w) (take-length xs)

  front_length : length (take at w ++ xs) ≡ at + length xs
  front_length = omega (arith, length-append (take at w) xs, length-take at w)

  pub written_at : (i : ℕ) → i < length xs → get_or (written w at xs) (at + i) 0 ≡ get_or xs i 0
  written_at i k =
      let e : at + i ≡ length (take at w) + i = omega (arith, length-take at w) in
      ap (λ l. get_or l (at + i) 0) front
      ∙ get_or-append (take at w ++ xs) (drop (at + length xs) w) 0 (at + i) (omega (arith, front_length))
      ∙ ap (λ j. get_or (take at w ++ xs) j 0) e
      ∙ get_or-append-add (take at w) xs i 0

  pub written_before : (k : ℕ) → k < at → get_or (written w at xs) k 0 ≡ get_or w k 0
  written_before k l =
      ap (λ m. get_or m k 0) front
      ∙ get_or-append (take at w ++ xs) (drop (at + length xs) w) 0 k (omega (arith, front_length))
      ∙ get_or-append (take at w) xs 0 k (omega (arith, length-take at w))
      ∙ get_or-take at w k 0 l

  pub written_after : (k : ℕ) → at + length xs ≤ k → get_or (written w at xs) k 0 ≡ get_or w k 0
  written_after k l = go (k - (at + length xs)) (omega arith)
    where
      go : (j : ℕ) → k ≡ (at + length xs) + j → get_or (written w at xs) k 0 ≡ get_or w k 0
      go j e =
          let f : k ≡ length (take at w ++ xs) + j = omega (arith, front_length) in
          ap (λ m. get_or m k 0) front
          ∙ ap (λ i. get_or ((take at w ++ xs) ++ drop (at + length xs) w) i 0) f
          ∙ get_or-append-add (take at w ++ xs) (drop (at + length xs) w) j 0
          ∙ get_or-drop (at + length xs) w j 0
          ∙ ap (λ i. get_or w i 0) (sym e)

  pub written_off : (k : ℕ) → Off at (at + length xs) k → get_or (written w at xs) k 0 ≡ get_or w k 0
  written_off k o = go (dec_lt k at) (dec_lt k (at + length xs))
    where
      go : Dec (k < at) → Dec (k < at + length xs) → get_or (written w at xs) k 0 ≡ get_or w k 0
      go (yes l) d = written_before k l
      go (no l) (yes m) = absurd (o (omega arith) m)
      go (no l) (no m) = written_after k (omega arith)

  pub written_frame : Frame (Off at (at + length xs)) w (written w at xs)
  written_frame = record { len = written_length w at xs h; same = written_off }

-- from what stays as it was and the words one by one
pub written_by : (w v : List ℕ) (at : ℕ) (xs : List ℕ) → Frame (Off at (at + length xs)) w v → ((i : ℕ) → i < length xs → get_or v (at + i) 0 ≡ get_or xs i 0)
    → at + length xs ≤ length w → v ≡ written w at xs
written_by w v at xs f g h = ext_get_or 0 v (written w at xs) (f.len ∙ sym (written_length w at xs h)) λ k b. go k (dec_lt k at) (dec_lt k (at + length xs))
  where
    inside : (k j : ℕ) → k ≡ at + j → j < length xs → get_or v k 0 ≡ get_or (written w at xs) k 0
    inside k j e l = ap (λ m. get_or v m 0) e ∙ g j l ∙ sym (written_at w at xs h j l) ∙ ap (λ m. get_or (written w at xs) m 0) (sym e)

    go : (k : ℕ) → Dec (k < at) → Dec (k < at + length xs) → get_or v k 0 ≡ get_or (written w at xs) k 0
    go k (yes l) d = f.same k (λ a b. absurd (omega arith)) ∙ sym (written_before w at xs h k l)
    go k (no l) (yes m) = inside k (k - at) (omega arith) (omega arith)
    go k (no l) (no m) = f.same k (λ a b. m b) ∙ sym (written_after w at xs h k (omega arith))

-- ── a list written member by member ──

pub words_are : {A : Type 0} (enc : A → List ℕ) (xs : List A) → words_of enc xs ≡ concat_map enc xs
unfolding words_of
words_are enc xs = refl

module _ {A : Type 0} (enc : A → List ℕ) (xs : List A) (w : List ℕ) (at : ℕ) where
  -- the members up to i and the next
  pub words_next : (i : ℕ) (d : A) → i < length xs → words_of enc (take (i + 1) xs) ≡ words_of enc (take i xs) ++ enc (get_or xs i d)
  unfolding words_of
  words_next i d h =
      ap (λ k. concat_map enc (take k xs)) (add-one i)
      ∙ ap (concat_map enc) (take-suc xs i d h)
      ∙ concat_map_append enc (take i xs) (get_or xs i d ∷ [])
      ∙ ap (λ l. concat_map enc (take i xs) ++ l) (append-nil (enc (get_or xs i d)))

  pub words_all : (i : ℕ) → i ≡ length xs → words_of enc (take i xs) ≡ words_of enc xs
  words_all i h = ap (words_of enc) (ap (λ k. take k xs) h ∙ take-length xs)

  -- the first members take no more words than all
  pub words_fit : (i : ℕ) → length (words_of enc (take i xs)) ≤ length (words_of enc xs)
  unfolding words_of
  words_fit i =
      omega (arith, ap (λ l. length (concat_map enc l)) (take-append-drop i xs), ap length (concat_map_append enc (take i xs) (drop i xs)), length-append (concat_map enc (take i xs)) (concat_map enc (drop i xs)))

  pub writes_start : Writes enc xs w at 0 w at
  unfolding words_of
  writes_start = record { done = sym (written_none w at); end = omega arith }

  pub writes_next : (i : ℕ) (v : List ℕ) (p : ℕ) (v' : List ℕ) (p' : ℕ) (d : A) → at ≤ length w → i < length xs → Writes enc xs w at i v p
      → v' ≡ written v p (enc (get_or xs i d)) → p' ≡ p + length (enc (get_or xs i d)) → Writes enc xs w at (i + 1) v' p'
  writes_next i v p v' p' d a h s e f = record {
    done =
        e
        ∙ ap₂ (λ l k. written l k (enc (get_or xs i d))) s.done s.end
        ∙ written_then w at (words_of enc (take i xs)) (enc (get_or xs i d)) a
        ∙ ap (written w at) (sym (words_next i d h));
    end = omega (arith, s.end, ap length (words_next i d h), length-append (words_of enc (take i xs)) (enc (get_or xs i d)));
  }

  pub writes_end : (i : ℕ) (v : List ℕ) (p : ℕ) → Writes enc xs w at i v p → i ≡ length xs → v ≡ written w at (words_of enc xs)
  writes_end i v p s e = s.done ∙ ap (written w at) (words_all i e)

  pub writes_place : (i : ℕ) (v : List ℕ) (p : ℕ) → Writes enc xs w at i v p → i ≡ length xs → p ≡ at + length (words_of enc xs)
  writes_place i v p s e = s.end ∙ ap (λ l. at + length l) (words_all i e)

  -- the slice keeps its length
  pub writes_length : (i : ℕ) (v : List ℕ) (p : ℕ) → Writes enc xs w at i v p → at + length (words_of enc xs) ≤ length w → length v ≡ length w
  writes_length i v p s h = ap length s.done ∙ written_length w at (words_of enc (take i xs)) (omega (arith, words_fit i))

  -- the next member has room
  pub writes_room : (i : ℕ) (v : List ℕ) (p : ℕ) (d : A) → Writes enc xs w at i v p → i < length xs → at + length (words_of enc xs) ≤ length w
      → p + length (enc (get_or xs i d)) ≤ length v
  writes_room i v p d s l h =
      omega (arith, s.end, writes_length i v p s h, words_fit (i + 1), ap length (words_next i d l), length-append (words_of enc (take i xs)) (enc (get_or xs i d)))
