-- An answer of code, read back; a word or a code of the first n, as code reads it.
use Rattle.std.specs.Prelude.{ℕ, suc, ◌+◌, ◌≤◌, ◌<◌, ◌≡◌, refl, List, get_or}
use Rattle.std.proofs.Math.Path.{sym}
use Rattle.std.proofs.Common.{ap, ◌∙◌, arith, lt-ltb, le-ltb}
use Rattle.blocks.specs.Blocks.{words}
use Rattle.blocks.specs.Frame.{first_words}
use Rattle.blocks.proofs.FirstWords.{length_first_words, first_words_at}
use Rattle.std.specs.Prelude.{Option}
use Rattle.std.specs.Prelude.{Some, None}
use Rattle.reader.specs.Reader.{Got, broken, got, and_then, word, code_below}
use Rattle.reader.specs.Step.{step_of}
use Rattle.reader.specs.ReaderLaws.{word_at, word_end}

-- ── an answer ──

pub arrived : {A : Type 0} (g : Got A) {r : Option ℕ} {q : ℕ} {C : Type 0} → r ≡ Some q → r ≡ step_of g → ((a : A) → g ≡ got a q → C) → C
unfolding step_of
arrived broken e k f = let z : ◌≡◌ {A = ℕ} 0 1 = cc in absurd (omega arith)
arrived (got a p) e k f = f a (ap (got a) (cc))

pub stuck : {A : Type 0} (g : Got A) {r : Option ℕ} → r ≡ None → r ≡ step_of g → g ≡ broken
unfolding step_of
stuck broken e k = refl
stuck (got a p) e k = let z : ◌≡◌ {A = ℕ} 0 1 = cc in absurd (omega arith)

-- what is made of a value does not count
pub make : {A B : Type 0} (g : Got A) (f : A → B) → step_of (and_then g (λ a p. got (f a) p)) ≡ step_of g
unfolding step_of
make broken f = refl
make (got a p) f = refl

-- a part that was passed, and then the rest
pub then_next : {A B : Type 0} (g : Got A) (k : A → ℕ → Got B) {r x : Option ℕ} {q : ℕ} → r ≡ Some q → r ≡ step_of g → ((a : A) → x ≡ step_of (k a q)) → x ≡ step_of (and_then g k)
then_next g k e h f = arrived g e h λ a i. f a ∙ sym (ap (λ y. step_of (and_then y k)) i)

pub then_stop : {A B : Type 0} (g : Got A) (k : A → ℕ → Got B) {r : Option ℕ} → r ≡ None → r ≡ step_of g → None ≡ step_of (and_then g k)
unfolding step_of
then_stop g k e h = sym (ap (λ y. step_of (and_then y k)) (stuck g e h))

-- ── a word ──

module _ (b : List ℕ) (n at : ℕ) where
  pub word_read : {w : ℕ} → at < n → w ≡ get_or (words b) at 0 → word (first_words b n) at ≡ got w (at + 1)
  word_read h e = word_at (first_words b n) at (omega (arith, length_first_words b n)) ∙ ap (λ w. got w (at + 1)) (first_words_at b n at h ∙ sym e)

  pub word_none : n ≤ at → word (first_words b n) at ≡ broken
  word_none h = word_end (first_words b n) at (omega (arith, length_first_words b n))

  pub word_next : at < n → Some (at + 1) ≡ step_of (word (first_words b n) at)
  unfolding step_of
  word_next h = sym (ap step_of (word_read h refl))

  pub word_stop : n ≤ at → None ≡ step_of (word (first_words b n) at)
  unfolding step_of
  word_stop h = sym (ap step_of (word_none h))

-- ── a code below m ──

module _ (b : List ℕ) (n at m : ℕ) where
  pub code_none : n ≤ at → code_below m (first_words b n) at ≡ broken
  unfolding code_below
  code_none h = rw (word_none b n at h)

  module _ {w : ℕ} (h : at < n) (e : w ≡ get_or (words b) at 0) where
    pub code_read : w < m → code_below m (first_words b n) at ≡ got w (at + 1)
    unfolding code_below
    code_read l = rw (word_read b n at h e) (rw (lt-ltb w m l))

    pub code_unlisted : m ≤ w → code_below m (first_words b n) at ≡ broken
    unfolding code_below
    code_unlisted l = rw (word_read b n at h e) (rw (le-ltb w m l))

-- a code that is at least n, and not n
pub beyond : (n w : ℕ) → n ≤ w → (w ≡ n → ⊥) → suc n ≤ w
beyond n w h k = omega arith
