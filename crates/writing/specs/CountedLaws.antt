-- A list of words with its count before it, written member by member: the count first, or last.
use Rattle.std.specs.Prelude.{◌≡◌, refl, List, [], ◌∷◌, map, ℕ, zero, suc, ◌+◌, ◌≤◌, ◌<◌, length, get_or}
use Rattle.std.proofs.Common.{sym, ap₂, ◌∙◌, arith}
use Rattle.std.proofs.Math.Path.{ap}
use Rattle.std.proofs.lemmas.List.{length-map}
use Rattle.writing.specs.Writing.{written, words_of, Writes}
use Rattle.writing.specs.WritingLaws.{written_then, written_length, written_at, written_off, written_after, written_by, writes_start, writes_end, writes_place, writes_next, writes_length, writes_room}

-- one word for each member
unfoldable pub each : {A : Type 0} → (A → ℕ) → A → List ℕ
each f x = f x ∷ []

pub each_words : {A : Type 0} (f : A → ℕ) (xs : List A) → words_of (each f) xs ≡ map f xs
unfolding words_of each
each_words f [] = refl
each_words f (x ∷ xs) = ap (λ l. f x ∷ l) (each_words f xs)

pub each_length : {A : Type 0} (f : A → ℕ) (xs : List A) → length (words_of (each f) xs) ≡ length xs
each_length f xs = ap length (each_words f xs) ∙ length-map xs f

-- ── the count first ──

-- after the count the first i of n words are written
pub record Counted {A : Type 0} (f : A → ℕ) (xs : List A) (n : ℕ) (w : List ℕ) (at i : ℕ) (v : List ℕ) (p : ℕ) : Type 0 where
  pub most : i ≤ n
  pub writes : Writes (each f) xs w at i v p

pub counted_start : {A : Type 0} (f : A → ℕ) (xs : List A) (n : ℕ) (u : List ℕ) (s : ℕ) → Counted f xs n u s 0 u s
counted_start f xs n u s = record { most = omega arith; writes = writes_start (each f) xs u s }

module _ {A : Type 0} (f : A → ℕ) (xs : List A) (w : List ℕ) (at n : ℕ) (h : at + 1 + n ≤ length w) (c : n ≡ length xs) where
  module _ (u : List ℕ) (s : ℕ) (e : u ≡ written w at (n ∷ [])) (k : s ≡ at + 1) where
    count_length : length u ≡ length w
    count_length = ap length e ∙ written_length w at (n ∷ []) (omega arith)

    count_room : s + length (words_of (each f) xs) ≤ length u
    count_room = omega (arith, count_length, each_length f xs)

    module _ (i : ℕ) (v : List ℕ) (p : ℕ) (x : Counted f xs n u s i v p) where
      pub counted_kept : length v ≡ length w
      counted_kept = writes_length (each f) xs u s i v p x.writes count_room ∙ count_length

      pub counted_room : (d : A) → i < n → p < length v
      unfolding each
      counted_room d l = omega (arith, writes_room (each f) xs u s i v p d x.writes (omega arith) count_room)

      pub counted_next : (d : A) {y p' : ℕ} {v' : List ℕ} → i < n → y ≡ f (get_or xs i d) → v' ≡ written v p (y ∷ []) → p' ≡ p + 1 → Counted f xs n u s (i + 1) v' p'
      unfolding each
      counted_next d {y} {p'} {v'} l z a b = record {
        most = omega arith;
        writes = writes_next (each f) xs u s i v p v' p' d (omega (arith, count_room)) (omega arith) x.writes (a ∙ ap (λ t. written v p (t ∷ [])) z) b;
      }

      pub counted_end : n ≤ i → v ≡ written w at (length (map f xs) ∷ map f xs)
      counted_end a =
          let z : i ≡ length xs = omega (arith, x.most) in
          writes_end (each f) xs u s i v p x.writes z
          ∙ ap₂ (λ l q. written l q (words_of (each f) xs)) e k
          ∙ written_then w at (n ∷ []) (words_of (each f) xs) (omega arith)
          ∙ ap₂ (λ m l. written w at (m ∷ l)) (c ∙ sym (length-map xs f)) (each_words f xs)

      pub counted_place : n ≤ i → p ≡ at + length (length (map f xs) ∷ map f xs)
      counted_place a =
          let z : i ≡ length xs = omega (arith, x.most) in
          omega (arith, writes_place (each f) xs u s i v p x.writes z, each_length f xs, length-map xs f)

-- ── the count last ──

pub count_last : (w : List ℕ) (at : ℕ) (ys : List ℕ) (n : ℕ) → at + 1 + length ys ≤ length w → written (written w (at + 1) ys) at (n ∷ []) ≡ written w at (n ∷ ys)
count_last w at ys n h =
    let u = written w (at + 1) ys in
    let l : length u ≡ length w = written_length w (at + 1) ys h in
    let k : at + length (n ∷ []) ≤ length u = omega (arith, l) in
    written_by w (written u at (n ∷ [])) at (n ∷ ys)
    (record {
      len = written_length u at (n ∷ []) k ∙ l;
      same = λ j o.
          written_off u at (n ∷ []) k j (λ a b. o a (omega arith)) ∙ written_off w (at + 1) ys h j (λ a b. o (omega arith) (omega arith));
    })
    (λ i b. go i b)
    (omega arith)
  where
    go : (i : ℕ) → i < length (n ∷ ys) → get_or (written (written w (at + 1) ys) at (n ∷ [])) (at + i) 0 ≡ get_or (n ∷ ys) i 0
    go zero b = written_at (written w (at + 1) ys) at (n ∷ []) (omega (arith, written_length w (at + 1) ys h)) 0 (omega arith)
    go (suc j) b =
        let z : at + suc j ≡ (at + 1) + j = omega arith in
        written_after (written w (at + 1) ys) at (n ∷ []) (omega (arith, written_length w (at + 1) ys h)) (at + suc j) (omega arith)
        ∙ ap (λ k. get_or (written w (at + 1) ys) k 0) z
        ∙ written_at w (at + 1) ys h j (omega arith)
