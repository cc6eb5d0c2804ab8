-- A span stored, and the spans of no struct one after the other.
use mathlib.Core.Path.{◌≡◌, refl, ap, subst, ◌∙◌}
use mathlib.Core.Logic.{◌≢◌}
use mathlib.Core.List.{List, [], ◌∷◌}
use Prim.Native.Nat.{ℕ, ◌+◌, ◌*◌, ◌≤◌, ◌<◌}
use native.Mathlib.Omega.{arith}
use native.Mathlib.Decide.{dec_lt}
use lib.ListN.{length, get_or}
use Rattle.spans.specs.Spans.{no_pre, no_post, no_length}
use Rattle.region.specs.Region.{Off, Frame}
use Rattle.region.specs.RegionLaws.{frame_refl}
use Rattle.writing.specs.Writing.{written}
use Rattle.writing.specs.WritingLaws.{written_at, written_frame}
use Rattle.table_spans.specs.Walked.{Blank}

-- ── a span stored ──

-- s is the span of t, and y is z with it
module _ (at t : ℕ) (s z y : List ℕ) (three : length s ≡ 3) (room : at + 1 + 3 * t + 3 ≤ length z)
    (e : y ≡ written z (at + 1 + 3 * t) s) where
  fits : at + 1 + 3 * t + length s ≤ length z
  fits = omega arith

  pub span_frame : Frame (Off (at + 1 + 3 * t) (at + 1 + 3 * t + length s)) z y
  span_frame = rw e (written_frame z (at + 1 + 3 * t) s fits)

  pub span_words_lem : (j : ℕ) → j < 3 → get_or y (at + 1 + 3 * t + j) 0 ≡ get_or s j 0
  span_words_lem j h = rw e (written_at z (at + 1 + 3 * t) s fits j (omega arith))

  pub span_others : (x : ℕ) → x ≢ t → (j : ℕ) → j < 3 → get_or y (at + 1 + 3 * x + j) 0 ≡ get_or z (at + 1 + 3 * x + j) 0
  span_others x n j h = span_frame.same (at + 1 + 3 * x + j) (λ a b. n (omega arith))

-- ── spans of no struct ──

pub blank_start : (at : ℕ) (v : List ℕ) → Blank at 0 v v
blank_start at v = record { frame = frame_refl (Off (at + 1) (at + 1 + 3 * 0)) v; words = λ x h. absurd (omega arith) }

pub blank_room : (at n t : ℕ) (v u : List ℕ) → at + 1 + 3 * n ≤ length v → t < n → Blank at t v u → at + 1 + 3 * t + 3 ≤ length u
blank_room at n t v u h l b = omega (arith, b.frame.len)

module _ (at n t : ℕ) (v u y : List ℕ) (h : at + 1 + 3 * n ≤ length v) (l : t < n) (b : Blank at t v u)
    (e : y ≡ written u (at + 1 + 3 * t) (no_pre ∷ no_post ∷ no_length ∷ [])) where
  room : at + 1 + 3 * t + 3 ≤ length u
  room = blank_room at n t v u h l b

  frame : Frame (Off (at + 1 + 3 * t) (at + 1 + 3 * t + 3)) u y
  frame = span_frame at t (no_pre ∷ no_post ∷ no_length ∷ []) u y refl room e

  word : (x : ℕ) → Dec (x < t) → x < t + 1 → (j : ℕ) → j < 3 → get_or y (at + 1 + 3 * x + j) 0 ≡ get_or (no_pre ∷ no_post ∷ no_length ∷ []) j 0
  word x (yes i) m j k = frame.same (at + 1 + 3 * x + j) (λ a c. omega arith) ∙ b.words x i j k
  word x (no i) m j k =
      let q : x ≡ t = omega arith in
      ap (λ z. get_or y (at + 1 + 3 * z + j) 0) q ∙ span_words_lem at t (no_pre ∷ no_post ∷ no_length ∷ []) u y refl room e j k

  pub blank_next : Blank at (t + 1) v y
  blank_next = record {
    frame = record {
      len = frame.len ∙ b.frame.len;
      same = λ k o. frame.same k (λ a c. o (omega arith) (omega arith)) ∙ b.frame.same k (λ a c. o a (omega arith));
    };
    words = λ x. word x (dec_lt x t);
  }

pub blank_end : (at n t : ℕ) (v u : List ℕ) → t ≤ n → n ≤ t → Blank at t v u → Blank at n v u
blank_end at n t v u h k b = let e : t ≡ n = omega arith in subst (λ i. Blank at i v u) e b
