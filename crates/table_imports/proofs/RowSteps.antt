-- Words of members 0, 1, .. n - 1 written one after the other, and a count before them.
use Prim.Native.Nat.{ℕ, zero, suc, ◌+◌, ◌≤◌, ◌<◌}
use mathlib.Core.Path.{◌≡◌, sym, ap, ◌∙◌}
use mathlib.Core.List.{List, [], ◌∷◌}
use native.Mathlib.Omega.{arith}
use native.Mathlib.Nat.{zero-add}
use lib.ListN.{length, get_or}
use Rattle.lists.specs.Lists.{from}
use Rattle.lists.specs.ListLaws.{length_from}
use Rattle.writing.specs.Writing.{written, words_of, Writes}
use Rattle.writing.specs.WritingLaws.{written_length, writes_start, writes_next, writes_end, writes_place, writes_length, writes_room, join_written}
use Rattle.table_imports.specs.Sections.{each_of}

-- the words of the first i members are written into w from place at on: v now, and p is the next place
pub record Rows (enc : ℕ → List ℕ) (n : ℕ) (w : List ℕ) (at i : ℕ) (v : List ℕ) (p : ℕ) : Type 0 where
  pub few : i ≤ n
  pub writes : Writes enc (from 0 n) w at i v p

from_at : (k n i : ℕ) → i < n → get_or (from k n) i 0 ≡ k + i
from_at k zero i h = absurd (omega arith)
from_at k (suc n) zero h = omega arith
from_at k (suc n) (suc i) h = let z : suc k + i ≡ k + suc i = omega arith in from_at (suc k) n i (omega arith) ∙ z

module _ (enc : ℕ → List ℕ) (n : ℕ) (w : List ℕ) (at : ℕ) where
  pub rows_start : Rows enc n w at 0 w at
  rows_start = record { few = omega arith; writes = writes_start enc (from 0 n) w at }

  module _ (i : ℕ) (v : List ℕ) (p : ℕ) (s : Rows enc n w at i v p) where
    done : n ≤ i → i ≡ length (from 0 n)
    done h = omega (arith, s.few, length_from 0 n)

    pub rows_end : n ≤ i → v ≡ written w at (each_of enc n)
    unfolding each_of words_of
    rows_end h = writes_end enc (from 0 n) w at i v p s.writes (done h)

    pub rows_place : n ≤ i → p ≡ at + length (each_of enc n)
    unfolding each_of words_of
    rows_place h = writes_place enc (from 0 n) w at i v p s.writes (done h)

    module _ (room : at + length (each_of enc n) ≤ length w) where
      pub rows_length : length v ≡ length w
      unfolding each_of words_of
      rows_length = writes_length enc (from 0 n) w at i v p s.writes room

      module _ (h : i < n) where
        member : get_or (from 0 n) i 0 ≡ i
        member = from_at 0 n i h ∙ zero-add i

        here : i < length (from 0 n)
        here = omega (arith, length_from 0 n)

        pub rows_room : p + length (enc i) ≤ length v
        unfolding each_of words_of
        rows_room = let r = writes_room enc (from 0 n) w at i v p 0 s.writes here room in omega (arith, r, ap (λ k. length (enc k)) member)

        pub rows_next : (v' : List ℕ) (p' : ℕ) → v' ≡ written v p (enc i) → p' ≡ p + length (enc i) → Rows enc n w at (i + 1) v' p'
        rows_next v' p' e f = record {
          few = omega arith;
          writes =
              writes_next enc (from 0 n) w at i v p v' p' 0 (omega (arith, room)) here s.writes (e ∙ ap (λ k. written v p (enc k)) (sym member)) (f ∙ ap (λ k. p + length (enc k)) (sym member));
        }

-- ── a count, and what it counts ──

module _ (u : List ℕ) (at c : ℕ) (ys : List ℕ) (room : at + 1 + length ys ≤ length u) (v : List ℕ) (first : ℕ) (e : v ≡ written u at (c ∷ [])) (k : first ≡ at + 1) where
  pub counted_length : length v ≡ length u
  counted_length = ap length e ∙ written_length u at (c ∷ []) (omega arith)

  pub counted_room : first + length ys ≤ length v
  counted_room = omega (arith, counted_length)

  pub counted_all : (v' : List ℕ) → v' ≡ written v first ys → v' ≡ written u at (c ∷ ys)
  counted_all v' f = join_written u at (c ∷ []) ys (omega arith) v first e k f
