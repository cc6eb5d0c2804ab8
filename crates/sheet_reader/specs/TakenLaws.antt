-- A word that code takes: how it is made, what it says of a reader's first step, and a list that begins with it.
use Rattle.std.specs.Prelude.{ℕ, Option, Some, None, ◌+◌, ◌≤◌, ◌<◌, ◌≡◌, refl, List, get_or}
use Rattle.std.proofs.Math.Path.{sym, ap}
use Rattle.std.proofs.Common.{ap₂, ◌∙◌, arith}
use Rattle.std.proofs.lemmas.Option.{some_pair_parts}
use Rattle.blocks.specs.Blocks.{words}
use Rattle.blocks.specs.Frame.{first_words}
use Rattle.reader.specs.Reader.{Got, broken, got, Reader, word, list_of}
use Rattle.reader.specs.Step.{step_of}
use Rattle.reader.specs.StepLaws.{word_read, word_none}
use Rattle.reader.proofs.LoopLaws.{Skips, skips_end, skips_next, skips_stop}
use Rattle.sheet_reader.specs.Taken.{taken_of}

-- ── made ──

module _ (b : List ℕ) (n at : ℕ) where
  pub takes_word : {w p : ℕ} → at < n → w ≡ get_or (words b) at 0 → p ≡ at + 1 → Some (w, p) ≡ taken_of (word (first_words b n) at)
  unfolding taken_of
  takes_word {w} {p} h e k = ap (λ (q : ℕ). Some (w, q)) k ∙ sym (ap taken_of (word_read b n at h e))

  pub takes_none : n ≤ at → None ≡ taken_of (word (first_words b n) at)
  unfolding taken_of
  takes_none h = sym (ap taken_of (word_none b n at h))

-- ── read back ──

pub word_taken : (g : Got ℕ) {r : Option (ℕ × ℕ)} {w q : ℕ} → r ≡ Some (w, q) → r ≡ taken_of g → g ≡ got w q
unfolding taken_of
word_taken broken e k = let z : ◌≡◌ {A = ℕ} 0 1 = cc in absurd (omega arith)
word_taken (got v p) {r} {w} {q} e k =
    let x = some_pair_parts v w p q (sym k ∙ e) in
    ap₂ got x.0 x.1

pub none_taken : (g : Got ℕ) {r : Option (ℕ × ℕ)} → r ≡ None → r ≡ taken_of g → g ≡ broken
unfolding taken_of
none_taken broken e k = refl
none_taken (got v p) e k = let z : ◌≡◌ {A = ℕ} 0 1 = cc in absurd (omega arith)

-- ── a list, whose count is the word ──

module _ {A : Type 0} (f : Reader A) (ws : List ℕ) (at : ℕ) {r : Option (ℕ × ℕ)} where
  pub skips_taken : (w q : ℕ) → r ≡ Some (w, q) → r ≡ taken_of (word ws at) → Skips f ws at w q
  unfolding list_of
  skips_taken w q e k = record { same = rw (word_taken (word ws at) e k) }

  pub list_none : r ≡ None → r ≡ taken_of (word ws at) → None ≡ step_of (list_of f ws at)
  unfolding list_of step_of
  list_none e k = rw (none_taken (word ws at) e k)

pub ruleset taking = (skips_taken, list_none, skips_end, skips_next, skips_stop)
