-- What code reads of values: each word of one, how many a list has, how many words one takes.
use Prim.Native.Nat.{ℕ, zero, suc, ◌+◌, ◌-◌, ◌*◌, ◌≤◌, ◌<◌}
use Rattle.std.specs.Prelude.{◌≡◌, refl, Bool, get_or}
use Rattle.std.proofs.Common.{sym, ap, ◌∙◌}
use mathlib.Core.List.{List, [], ◌∷◌}
use native.Mathlib.Omega.{arith}
use Rattle.std.proofs.Math.ListN.{length}
use Rattle.blocks.specs.Blocks.{words}
use Rattle.blocks.specs.Frame.{first_words}
use Rattle.blocks.proofs.FirstWords.{length_first_words, first_words_at}
use Rattle.reader.specs.Reader.{got, Reader, word, many, list_of}
use Rattle.reader.specs.ReaderLaws.{Codes, free, then_inv, one_word, word_codes}
use Rattle.reader.proofs.ReadLaws.{read_at, read_inside}
use Rattle.reader.specs.Value.{Whole}
use Rattle.reader.specs.ValueLaws.{whole_inv, got_whole, list_within, list_opened}

-- ── the words of a value ──

module _ {A : Type 0} (f : Reader A) (enc : A → List ℕ) (ok : A → Bool) (b : List ℕ) (n : ℕ) (l : Codes (first_words b n) f enc ok) (p : ℕ) (a : A) (q : ℕ) (e : f (first_words b n) p ≡ got a q) where
  -- word i of what stands at p
  module _ (i : ℕ) (h : i < length (enc a)) where
    pub word_within : p + i < n
    word_within = omega (arith, read_inside (first_words b n) f enc ok l p a q e (omega arith), (l.found p a q e).stands.end, length_first_words b n)

    pub word_held : {s : ℕ} → s ≡ get_or (words b) (p + i) 0 → s ≡ get_or (enc a) i 0
    word_held k = k ∙ sym (first_words_at b n (p + i) word_within) ∙ read_at (first_words b n) f enc ok l p a q e i h

  pub first_held : {s : ℕ} → 0 < length (enc a) → s ≡ get_or (words b) p 0 → s ≡ get_or (enc a) 0 0
  first_held h k = let z : p ≡ p + 0 = omega arith in word_held 0 h (k ∙ ap (λ j. get_or (words b) j 0) z)

-- ── how many values ──

pub many_length : {A : Type 0} (n : ℕ) (f : Reader A) (ws : List ℕ) (p : ℕ) (xs : List A) (q : ℕ) → many n f ws p ≡ got xs q → length xs ≡ n
unfolding many
many_length zero f ws p xs q e = let h : [] ≡ xs = cc in ap length (sym h)
many_length (suc n) f ws p xs q e =
    then_inv (f ws p) _ e λ a p₁ e₁ e₂. then_inv (many n f ws p₁) _ e₂ λ ys p₂ e₃ e₄.
    let h : a ∷ ys ≡ xs = cc in ap length (sym h) ∙ ap suc (many_length n f ws p₁ ys p₂ e₃)

module _ {A : Type 0} (f : Reader A) (b : List ℕ) (n at : ℕ) (xs : List A) (q : ℕ) where
  -- the values of a list stand after its count
  pub list_read : {w : ℕ} → list_of f (first_words b n) at ≡ got xs q → w ≡ get_or (words b) at 0 → many w f (first_words b n) (at + 1) ≡ got xs q
  list_read e h = sym (list_opened f b n at (list_within f b n at (got_whole e)) h) ∙ e

  -- the word at a list's position is how many members it has
  pub list_count : {w : ℕ} → list_of f (first_words b n) at ≡ got xs q → w ≡ get_or (words b) at 0 → w ≡ length xs
  list_count {w} e h = sym (many_length w f (first_words b n) (at + 1) xs q (list_read e h))

-- ── values of s words ──

-- a value takes s words, and they are all there
pub record Takes {A : Type 0} (f : Reader A) (s : ℕ) : Type 0 where
  pub ends : (ws : List ℕ) (p : ℕ) (a : A) (q : ℕ) → f ws p ≡ got a q → q ≡ p + s
  pub inside : (ws : List ℕ) (p : ℕ) (a : A) (q : ℕ) → f ws p ≡ got a q → q ≤ length ws

pub coded_takes : {A : Type 0} (f : Reader A) (enc : A → List ℕ) (ok : A → Bool) (s : ℕ) → ((ws : List ℕ) → Codes ws f enc ok) → ((a : A) → length (enc a) ≡ s) → 0 < s → Takes f s
coded_takes f enc ok s l e h = record {
  ends = λ ws p a q g. ((l ws).found p a q g).stands.end ∙ ap (λ k. p + k) (e a);
  inside = λ ws p a q g. read_inside ws f enc ok (l ws) p a q g (omega (arith, e a));
}

pub word_takes : Takes word 1
word_takes = coded_takes word one_word free 1 word_codes (λ a. refl) (omega arith)

module _ {A : Type 0} (f : Reader A) (s : ℕ) (z : Takes f s) where
  pub many_takes : (ws : List ℕ) (c p : ℕ) (xs : List A) (q : ℕ) → many c f ws p ≡ got xs q → q ≡ p + s * c
  unfolding many
  many_takes ws zero p xs q e = let x : p ≡ q = cc in omega arith
  many_takes ws (suc c) p xs q e =
      then_inv (f ws p) _ e λ a p₁ e₁ e₂. then_inv (many c f ws p₁) _ e₂ λ ys p₂ e₃ e₄.
      let y : p₂ ≡ q = cc in
      omega (arith, z.ends ws p a p₁ e₁, many_takes ws c p₁ ys p₂ e₃, y)

  pub many_inside : (ws : List ℕ) (c p : ℕ) → Whole (many c f ws p) → s * c ≤ length ws - p
  unfolding many
  many_inside ws c p h = whole_inv (many c f ws p) h λ xs q e. go c p xs q e
    where
      go : (c p : ℕ) (xs : List A) (q : ℕ) → many c f ws p ≡ got xs q → s * c ≤ length ws - p
      go zero p xs q e = omega arith
      go (suc c) p xs q e =
          then_inv (f ws p) _ e λ a p₁ e₁ e₂. then_inv (many c f ws p₁) _ e₂ λ ys p₂ e₃ e₄.
          omega (arith, z.ends ws p a p₁ e₁, z.inside ws p a p₁ e₁, go c p₁ ys p₂ e₃)
