-- The pass over a table: one law for each turn, and what its lines are on a table that load left.
use Prim.Native.Nat.{ℕ, zero, suc, ◌+◌, ◌*◌, ◌≤◌, ◌<◌}
use mathlib.Core.Path.{◌≡◌, refl, sym, ap, ap₂, ◌∙◌, subst}
use mathlib.Core.List.{List, [], ◌∷◌, ◌++◌, append-nil}
use mathlib.Core.Bool.{Bool, true, false, cond}
use native.Mathlib.Omega.{arith}
use lib.Dec.{ltb}
use lib.ListN.{length, length-append}
use borrow.Author.Tests.{lt-ltb, le-ltb}
use Rattle.lists.specs.Lists.{concat_map, from, sum}
use Rattle.lists.specs.ListLaws.{concat_map_append}
use Rattle.law_counting.specs.Counting.{sum_append}
use Rattle.writing.specs.Writing.{written}
use Rattle.writing.specs.WritingLaws.{written_none, written_then, written_length}
use Rattle.std.specs.Result.{result_unwrap_or}
use Rattle.descends.specs.Sizes.{FamilySize, size_in}
use Rattle.exact.specs.Exact.{value_of}
use Rattle.report_lines.specs.declared.Totals.{Totals}
use Rattle.report_lines.specs.Reported.{total_numbers}
use Rattle.sheet_report.specs.declared.FamilyLines.{FamilyLines}
use Rattle.sheet_report.specs.Lines.{size_word, line_in, lines_in, LinesWritten}

-- ── the size of one ──

pub sized : (ws : List ℕ) (t : ℕ) {x : FamilySize} {n : ℕ} → x ≡ size_in ws t → n ≡ result_unwrap_or x 0 → n ≡ size_word ws t
unfolding size_word
sized ws t e f = f ∙ ap (λ r. result_unwrap_or r 0) e

-- ── two words ──

pub line_written : (w v u : List ℕ) (at t n p : ℕ) → at + 1 < length w → v ≡ written w at (t ∷ []) → p ≡ at + 1 → u ≡ written v p (n ∷ []) →
    u ≡ written w at (t ∷ n ∷ [])
line_written w v u at t n p h e f g =
    g ∙ ap₂ (λ l k. written l k (n ∷ [])) e f ∙ written_then w at (t ∷ []) (n ∷ []) (omega arith)

pub next_room : (w v : List ℕ) (at t p : ℕ) → at + 1 < length w → v ≡ written w at (t ∷ []) → p ≡ at + 1 → p < length v
next_room w v at t p h e f = omega (arith, ap length e, written_length w at (t ∷ []) (omega arith))

-- ── the line of one ──

module _ (ws : List ℕ) (t : ℕ) {n : ℕ} (e : n ≡ size_word ws t) where
  line_is : 0 < n → line_in ws t ≡ t ∷ n ∷ []
  unfolding line_in
  line_is h =
      ap (λ b. cond b (t ∷ size_word ws t ∷ []) []) (lt-ltb 0 (size_word ws t) (omega (arith, e)))
      ∙ ap (λ x. t ∷ x ∷ []) (sym e)

  no_line : n ≡ 0 → line_in ws t ≡ []
  unfolding line_in
  no_line h = ap (λ b. cond b (t ∷ size_word ws t ∷ []) []) (le-ltb 0 (size_word ws t) (omega (arith, e)))

  pub none_written : n ≡ 0 → (w : List ℕ) (at : ℕ) → w ≡ written w at (line_in ws t)
  none_written h w at = sym (ap (written w at) (no_line h) ∙ written_none w at)

  pub none_place : n ≡ 0 → (at : ℕ) → at ≡ at + length (line_in ws t)
  none_place h at = omega (arith, ap length (no_line h))

  pub none_size : n ≡ 0 → (s : ℕ) → s ≡ s + size_word ws t
  none_size h s = omega (arith, e)

  pub one_written : (n ≡ 0 → ⊥) → (w : List ℕ) {v : List ℕ} (at : ℕ) → v ≡ written w at (t ∷ n ∷ []) → v ≡ written w at (line_in ws t)
  one_written h w at q = q ∙ ap (written w at) (sym (line_is (omega arith)))

  pub one_place : (n ≡ 0 → ⊥) → {p : ℕ} (at : ℕ) → p ≡ at + 2 → p ≡ at + length (line_in ws t)
  one_place h at q = omega (arith, ap length (line_is (omega arith)))

  pub one_size : (s : ℕ) → s + n ≡ s + size_word ws t
  one_size s = omega (arith, e)

pub ruleset family = (none_written, none_place, none_size, one_written, one_place, one_size)

-- ── nothing yet ──

pub no_numbers : (t : Totals) → value_of t.structs ≡ 0 → value_of t.sizes ≡ 0 → total_numbers t ≡ 0 ∷ 0 ∷ []
unfolding total_numbers
no_numbers t e f = ap₂ (λ x y. x ∷ y ∷ []) e f

-- ── one number more ──

from_last : (k n : ℕ) → from k (n + 1) ≡ from k n ++ ((k + n) ∷ [])
from_last k zero = ap (λ x. x ∷ []) (omega arith)
from_last k (suc n) =
    let z : suc n + 1 ≡ suc (n + 1) = omega arith in
    let y : suc k + n ≡ k + suc n = omega arith in
    ap (from k) z ∙ ap (λ l. k ∷ l) (from_last (suc k) n ∙ ap (λ x. from (suc k) n ++ (x ∷ [])) y)

module _ (ws : List ℕ) where
  lines_next : (t : ℕ) → lines_in ws (t + 1) ≡ lines_in ws t ++ line_in ws t
  unfolding lines_in
  lines_next t =
      let z : 0 + t ≡ t = omega arith in
      ap (concat_map (line_in ws)) (from_last 0 t)
      ∙ concat_map_append (line_in ws) (from 0 t) ((0 + t) ∷ [])
      ∙ ap (λ l. concat_map (line_in ws) (from 0 t) ++ l) (append-nil (line_in ws (0 + t)) ∙ ap (line_in ws) z)

  sizes_next : (t : ℕ) → sum (size_word ws) (from 0 (t + 1)) ≡ sum (size_word ws) (from 0 t) + size_word ws t
  sizes_next t =
      let z : 0 + t ≡ t = omega arith in
      ap (sum (size_word ws)) (from_last 0 t)
      ∙ sum_append (size_word ws) (from 0 t) ((0 + t) ∷ [])
      ∙ omega (arith, ap (size_word ws) z)

  line_few : (t : ℕ) → length (line_in ws t) ≤ 2
  unfolding line_in
  line_few t = go (ltb 0 (size_word ws t))
    where
      go : (b : Bool) → length (cond b (t ∷ size_word ws t ∷ []) []) ≤ 2
      go true = omega arith
      go false = omega arith

  lines_few : (t : ℕ) → length (lines_in ws t) ≤ 2 * t
  lines_few zero = unfold lines_in in omega arith
  lines_few (suc t) =
      let z : suc t ≡ t + 1 = omega arith in
      let next = length-append (lines_in ws t) (line_in ws t) in
      omega (arith, ap (λ k. length (lines_in ws k)) z, ap length (lines_next t), next, line_few t, lines_few t)

-- ── the loop ──

-- what the loop knows of the first t numbers, beside what is listed: room for the next line, and for the next size
pub record Passes (ws w : List ℕ) (t : ℕ) (v : List ℕ) (f : FamilyLines) : Type 0 where
  pub listed : LinesWritten ws w t v f
  pub high : t ≤ 2032
  pub small : f.sizes ≤ 4294967295 * t
  pub room : 4064 ≤ length w

pub pass_start : (ws w : List ℕ) (f : FamilyLines) → f.words ≡ 0 → f.sizes ≡ 0 → 4064 ≤ length w → Passes ws w 0 w f
pass_start ws w f a b h = record {
  listed = record { done = sym (written_none w 0) ∙ ap (written w 0) empty; words = a ∙ ap length empty; sizes = b };
  high = omega arith;
  small = omega (arith, b);
  room = h;
}
  where
    empty : [] ≡ lines_in ws 0
    empty = unfold lines_in in refl

module _ {ws w v : List ℕ} {t : ℕ} {f : FamilyLines} (p : Passes ws w t v f) where
  pub pass_length : length v ≡ length w
  pass_length = ap length p.listed.done ∙ written_length w 0 (lines_in ws t) (omega (arith, lines_few ws t, p.high, p.room))

  pub line_room : t < 2032 → f.words + 1 < length v
  line_room h = omega (arith, pass_length, p.listed.words, lines_few ws t, p.room)

  pub size_room : t < 2032 → f.sizes + 4294967296 ≤ 18446744073709551616
  size_room h = omega (arith, p.small)

  pub pass_next : t < 2032 → {u : List ℕ} {g : FamilyLines} → u ≡ written v f.words (line_in ws t) →
      g.words ≡ f.words + length (line_in ws t) → g.sizes ≡ f.sizes + size_word ws t →
      g.sizes ≤ f.sizes + 4294967295 → Passes ws w (t + 1) u g
  pass_next h {u} {g} k a b c = record {
    listed = record {
      done =
          k
          ∙ ap₂ (λ x y. written x y (line_in ws t)) p.listed.done (omega (arith, p.listed.words))
          ∙ written_then w 0 (lines_in ws t) (line_in ws t) (omega arith)
          ∙ ap (written w 0) (sym (lines_next ws t));
      words = omega (arith, a, p.listed.words, ap length (lines_next ws t), length-append (lines_in ws t) (line_in ws t));
      sizes = omega (arith, b, p.listed.sizes, sizes_next ws t);
    };
    high = omega arith;
    small = omega (arith, c, p.small);
    room = p.room;
  }

  pub pass_end : 2032 ≤ t → LinesWritten ws w 2032 v f × (f.sizes < 1000000000000000000)
  pass_end h =
      let z : t ≡ 2032 = omega (arith, p.high) in
      (subst (λ k. LinesWritten ws w k v f) z p.listed, omega (arith, p.small, p.high))

pub ruleset passing = (pass_start, line_room, size_room, pass_next, pass_end)
