-- What is known of a value that was read.
use Rattle.std.specs.Prelude.{ℕ, suc, ◌+◌, ◌-◌, ◌≤◌, ◌<◌, ◌≡◌, refl, List, ◌∷◌, get_or}
use Rattle.std.proofs.Common.{sym, ap, subst, ◌∙◌, arith}
use Rattle.std.proofs.Math.Decide.{dec_lt}
use Rattle.blocks.specs.Blocks.{words}
use Rattle.blocks.specs.Frame.{first_words}
use Rattle.std.specs.Prelude.{Some}
use Rattle.reader.specs.Reader.{Got, broken, got, Reader, and_then, many, list_of}
use Rattle.reader.specs.ReaderLaws.{then_inv}
use Rattle.reader.specs.Step.{step_of}
use Rattle.reader.specs.StepLaws.{arrived, word_read, word_none}
use Rattle.reader.specs.Value.{Whole, value_of}

pub whole_inv : {A C : Type 0} (g : Got A) → Whole g → ((a : A) (q : ℕ) → g ≡ got a q → C) → C
unfolding Whole
whole_inv broken h f = absurd h
whole_inv (got a q) h f = f a q refl

pub got_whole : {A : Type 0} {g : Got A} {a : A} {q : ℕ} → g ≡ got a q → Whole g
unfolding Whole
got_whole e = subst Whole (sym e) tt

pub not_whole : {A : Type 0} {g : Got A} → g ≡ broken → Whole g → ⊥
unfolding Whole
not_whole e h = subst Whole e h

pub value_got : {A : Type 0} (d : A) {g : Got A} {a : A} {q : ℕ} → g ≡ got a q → value_of d g ≡ a
unfolding value_of
value_got d e = ap (value_of d) e

-- what was passed was read
pub step_whole : {A : Type 0} (g : Got A) {q : ℕ} → Some q ≡ step_of g → Whole g
step_whole g e = arrived g refl e λ a h. got_whole h

-- ── a list ──

module _ {A : Type 0} (f : Reader A) (b : List ℕ) (n at : ℕ) where
  list_past : n ≤ at → list_of f (first_words b n) at ≡ broken
  unfolding list_of
  list_past h = rw (word_none b n at h)

  pub list_within : Whole (list_of f (first_words b n) at) → at < n
  list_within h = go (dec_lt at n)
    where
      go : Dec (at < n) → at < n
      go (yes l) = l
      go (no k) = absurd (not_whole (list_past (omega arith)) h)

  pub list_opened : {w : ℕ} → at < n → w ≡ get_or (words b) at 0 → list_of f (first_words b n) at ≡ many w f (first_words b n) (at + 1)
  unfolding list_of
  list_opened h e = rw (word_read b n at h e)

  pub list_whole : {w : ℕ} → Whole (list_of f (first_words b n) at) → w ≡ get_or (words b) at 0 → Whole (many w f (first_words b n) (at + 1))
  list_whole h e = subst Whole (list_opened (list_within h) e) h

  pub list_value : {w : ℕ} (d : List A) → Whole (list_of f (first_words b n) at) → w ≡ get_or (words b) at 0 →
      value_of d (list_of f (first_words b n) at) ≡ value_of d (many w f (first_words b n) (at + 1))
  list_value d h e = ap (value_of d) (list_opened (list_within h) e)

-- ── the first of some values ──

many_opened : {A : Type 0} (f : Reader A) (ws : List ℕ) (left p : ℕ) → 0 < left →
    many left f ws p ≡ and_then (f ws p) (λ a q. and_then (many (left - 1) f ws q) (λ xs r. got (a ∷ xs) r))
unfolding many
many_opened f ws left p l = let z : left ≡ suc (left - 1) = omega arith in ap (λ m. many m f ws p) z

-- the first value, and the others
pub many_first : {A C : Type 0} (f : Reader A) (ws : List ℕ) (left p : ℕ) → Whole (many left f ws p) → 0 < left
    → ((a : A) (q : ℕ) (xs : List A) (r : ℕ) → f ws p ≡ got a q → many (left - 1) f ws q ≡ got xs r → many left f ws p ≡ got (a ∷ xs) r → C) → C
many_first {A} {C} f ws left p h l k =
    whole_inv (many left f ws p) h λ ys r e.
    then_inv (f ws p) _ (sym (many_opened f ws left p l) ∙ e) λ a q e₁ e₂. then_inv (many (left - 1) f ws q) _ e₂ λ xs r₁ e₃ e₄.
    let x : r₁ ≡ r = cc in
    let y : a ∷ xs ≡ ys = cc in
    k a q xs r e₁ (e₃ ∙ ap (got xs) x) (e ∙ ap (λ zs. got zs r) (sym y))
