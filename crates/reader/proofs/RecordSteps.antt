-- Lists whose members have a fixed number of words: where they end, without a look at them.
use Prim.Native.Nat.{ℕ, zero, suc, ◌+◌, ◌-◌, ◌*◌, ◌≤◌, ◌<◌}
use Rattle.std.proofs.Math.Path.{◌≡◌, refl, sym, ap}
use Rattle.std.proofs.Common.{◌∙◌}
use Rattle.std.specs.Prelude.{List, [], ◌∷◌}
use native.Mathlib.Omega.{arith}
use Rattle.std.proofs.Math.Decide.{dec_lt}
use Rattle.std.proofs.Math.ListN.{length, get_or}
use Rattle.blocks.specs.Blocks.{words}
use Rattle.blocks.specs.Frame.{first_words}
use Rattle.blocks.proofs.FirstWords.{length_first_words}
use Rattle.std.specs.Prelude.{Option}
use Rattle.std.specs.Prelude.{Some, None}
use Rattle.reader.specs.Reader.{Got, broken, got, Reader, and_then, ◌>>=◌, pure, word, many, list_of}
use Rattle.reader.specs.ReaderLaws.{word_at, word_end}
use Rattle.reader.specs.Step.{step_of}
use Rattle.reader.specs.StepLaws.{word_read, arrived, stuck, make}

-- ── words ──

module _ (ws : List ℕ) where
  words_fit : (k p : ℕ) → p + k ≤ length ws → Some (p + k) ≡ step_of (many k word ws p)
  unfolding many step_of
  words_fit zero p h = let e : p + 0 ≡ p = omega arith in ap Some e
  words_fit (suc k) p h =
      let e : p + suc k ≡ (p + 1) + k = omega arith in
      rw (word_at ws p (omega arith)) (ap Some e ∙ words_fit k (p + 1) (omega arith) ∙ sym (make (many k word ws (p + 1)) (λ xs. get_or ws p 0 ∷ xs)))

  words_stop : (k p : ℕ) → p ≤ length ws → length ws < p + k → None ≡ step_of (many k word ws p)
  unfolding many step_of
  words_stop zero p l h = absurd (omega arith)
  words_stop (suc k) p l h = go (dec_lt p (length ws)) (λ m. words_stop k (p + 1) m (omega arith))
    where
      go : Dec (p < length ws) → (p + 1 ≤ length ws → None ≡ step_of (many k word ws (p + 1))) →
          None ≡ step_of (and_then (word ws p) (λ a q. and_then (many k word ws q) (λ xs r. got (a ∷ xs) r)))
      go (yes m) ih = rw (word_at ws p m) (ih (omega arith) ∙ sym (make (many k word ws (p + 1)) (λ xs. get_or ws p 0 ∷ xs)))
      go (no m) ih = rw (word_end ws p (omega arith))

  -- ── records of s words ──

  got_words : (s p : ℕ) → p + s ≤ length ws → {C : Type 0} → ((xs : List ℕ) → many s word ws p ≡ got xs (p + s) → C) → C
  got_words s p h f = arrived (many s word ws p) {r = Some (p + s)} refl (words_fit s p h) f

  records_fit : (s c p : ℕ) → p + c * s ≤ length ws → Some (p + c * s) ≡ step_of (many c (many s word) ws p)
  unfolding many step_of
  records_fit s zero p h = let e : p + 0 * s ≡ p = omega arith in ap Some e
  records_fit s (suc c) p h =
      let e : p + suc c * s ≡ (p + s) + c * s = omega arith in
      got_words s p (omega arith) λ xs g. rw g (ap Some e ∙ records_fit s c (p + s) (omega arith) ∙ sym (make (many c (many s word) ws (p + s)) (λ rest. xs ∷ rest)))

  records_stop : (s c p : ℕ) → p ≤ length ws → length ws < p + c * s → None ≡ step_of (many c (many s word) ws p)
  unfolding many step_of
  records_stop s zero p l h = absurd (omega arith)
  records_stop s (suc c) p l h = go (dec_lt (length ws) (p + s)) (λ m. records_stop s c (p + s) m (omega arith))
    where
      go : Dec (length ws < p + s) → (p + s ≤ length ws → None ≡ step_of (many c (many s word) ws (p + s))) →
          None ≡ step_of (and_then (many s word ws p) (λ a q. and_then (many c (many s word) ws q) (λ xs r. got (a ∷ xs) r)))
      go (yes m) ih = rw (stuck (many s word ws p) refl (words_stop s p l m))
      go (no m) ih = got_words s p (omega arith) λ xs g. rw g (ih (omega arith) ∙ sym (make (many c (many s word) ws (p + s)) (λ rest. xs ∷ rest)))

-- ── a list of records ──

module _ (bytes : List ℕ) (n at s : ℕ) {w : ℕ} where
  pub records_next : at < n → w ≡ get_or (words bytes) at 0 → w * s ≤ n - (at + 1) → Some (at + 1 + w * s) ≡ step_of (list_of (many s word) (first_words bytes n) at)
  unfolding list_of
  records_next h e k = rw (word_read bytes n at h e) (records_fit (first_words bytes n) s w (at + 1) (omega (arith, length_first_words bytes n)))

  pub records_short : at < n → w ≡ get_or (words bytes) at 0 → n - (at + 1) < w * s → None ≡ step_of (list_of (many s word) (first_words bytes n) at)
  unfolding list_of
  records_short h e k =
      rw (word_read bytes n at h e) (records_stop (first_words bytes n) s w (at + 1) (omega (arith, length_first_words bytes n)) (omega (arith, length_first_words bytes n)))

-- ── readers that take as many words as a record ──

-- f ends where s words end
pub record Sized {A : Type 0} (f : Reader A) (s : ℕ) : Type 0 where
  pub ends : (ws : List ℕ) (p : ℕ) → step_of (f ws p) ≡ step_of (many s word ws p)

-- readers that end alike end alike over lists
module _ {A B : Type 0} (f : Reader A) (g : Reader B) (ws : List ℕ) (alike : (p : ℕ) → step_of (f ws p) ≡ step_of (g ws p)) where
  many_alike : (c p : ℕ) → step_of (many c f ws p) ≡ step_of (many c g ws p)
  unfolding many step_of
  many_alike zero p = refl
  many_alike (suc c) p = go (f ws p) (g ws p) (alike p) (many_alike c)
    where
      go : (x : Got A) (y : Got B) → step_of x ≡ step_of y → ((q : ℕ) → step_of (many c f ws q) ≡ step_of (many c g ws q)) →
          step_of (and_then x (λ a q. and_then (many c f ws q) (λ xs r. got (a ∷ xs) r))) ≡ step_of (and_then y (λ a q. and_then (many c g ws q) (λ xs r. got (a ∷ xs) r)))
      go broken broken e ih = refl
      go broken (got b q) e ih = let z : ◌≡◌ {A = ℕ} 0 1 = cc in absurd (omega arith)
      go (got a p) broken e ih = let z : ◌≡◌ {A = ℕ} 0 1 = cc in absurd (omega arith)
      go (got a p) (got b q) e ih =
          let z : p ≡ q = cc in
          make (many c f ws p) (λ xs. a ∷ xs) ∙ ih p ∙ ap (λ k. step_of (many c g ws k)) z ∙ sym (make (many c g ws q) (λ xs. b ∷ xs))

  pub lists_alike : (p : ℕ) → step_of (list_of f ws p) ≡ step_of (list_of g ws p)
  unfolding list_of step_of
  lists_alike p = go (word ws p)
    where
      go : (x : Got ℕ) → step_of (and_then x (λ c q. many c f ws q)) ≡ step_of (and_then x (λ c q. many c g ws q))
      go broken = refl
      go (got c q) = many_alike c q

pub sized_list : {A : Type 0} {f : Reader A} {s : ℕ} → Sized f s → (ws : List ℕ) (p : ℕ) {r : Option ℕ} → r ≡ step_of (list_of (many s word) ws p) → r ≡ step_of (list_of f ws p)
sized_list {A} {f} {s} z ws p e = e ∙ sym (lists_alike f (many s word) ws (z.ends ws) p)

-- a word and then k words
pub sized_next : {A : Type 0} (f : ℕ → Reader A) {k : ℕ} → ((a : ℕ) → Sized (f a) k) → Sized (word >>= f) (suc k)
unfolding many step_of
sized_next f {k} z = record { ends = λ ws p. go ws (word ws p) }
  where
    go : (ws : List ℕ) (x : Got ℕ) → step_of (and_then x (λ a q. f a ws q)) ≡ step_of (and_then x (λ a q. and_then (many k word ws q) (λ xs r. got (a ∷ xs) r)))
    go ws broken = refl
    go ws (got a q) = (z a).ends ws q ∙ sym (make (many k word ws q) (λ xs. a ∷ xs))

pub sized_end : {A : Type 0} (a : A) → Sized (pure a) 0
unfolding many step_of
sized_end a = record { ends = λ ws p. refl }

-- a record of two words
pub sized_two : {A : Type 0} (g : ℕ → ℕ → A) → Sized (word >>= (λ a. word >>= (λ b. pure (g a b)))) 2
sized_two g = sized_next (λ a. word >>= (λ b. pure (g a b))) λ a. sized_next (λ b. pure (g a b)) λ b. sized_end (g a b)

pub sized_word : Sized word 1
unfolding many step_of
sized_word = record { ends = λ ws p. sym (make (word ws p) (λ a. a ∷ [])) }

-- a value of s words, where there are as many
module _ {A : Type 0} {f : Reader A} {s : ℕ} (z : Sized f s) (bytes : List ℕ) (n at : ℕ) where
  pub sized_fit : (q : ℕ) → at + s ≤ n → at + s ≡ q → Some q ≡ step_of (f (first_words bytes n) at)
  sized_fit q h e =
      ap Some (sym e) ∙ words_fit (first_words bytes n) s at (omega (arith, length_first_words bytes n)) ∙ sym (z.ends (first_words bytes n) at)

  pub sized_short : at ≤ n → n < at + s → None ≡ step_of (f (first_words bytes n) at)
  sized_short h l =
      words_stop (first_words bytes n) s at (omega (arith, length_first_words bytes n)) (omega (arith, length_first_words bytes n)) ∙ sym (z.ends (first_words bytes n) at)
