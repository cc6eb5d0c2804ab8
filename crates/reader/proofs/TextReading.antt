-- For the code that passes a string: one law for each return and each turn of a loop.
use Prim.Native.Nat.{ℕ, zero, suc, ◌+◌, ◌-◌, ◌*◌, ◌/◌, ◌%◌, ◌^◌, ◌≤◌, ◌<◌}
use mathlib.Core.Path.{◌≡◌, refl, sym, ap, ◌∙◌}
use mathlib.Core.List.{List, [], ◌∷◌, append-nil}
use mathlib.Core.Bool.{Bool, true, false, cond, ◌&&◌, and-true, and-false}
use native.Mathlib.Omega.{arith}
use native.Mathlib.Decide.{dec_lt}
use lib.Dec.{eqb}
use lib.ListN.{length, get_or, take}
use borrow.Author.Tests.{eq-eqb, ne_eqb}
use Rattle.lists.specs.Lists.{all_of, concat_map}
use Rattle.blocks.specs.Blocks.{bytes_of, words}
use Rattle.blocks.specs.Frame.{first_words}
use Rattle.utf8.specs.declared.State.{State}
use Rattle.utf8.specs.declared.State.TheVariants.{Done}
use Rattle.utf8.specs.Utf8.{Place, due, next, after, done, well_formed}
use Rattle.utf8.specs.State.{meaning, octets}
use Rattle.std.specs.Prelude.{Option}
use Rattle.std.specs.Prelude.{Some, None}
use Rattle.reader.specs.Reader.{Got, broken, got, Reader, and_then, pure, fail, word, many}
use Rattle.reader.specs.Text.{words_for, good_text, string}
use Rattle.reader.specs.Step.{step_of, good_rest, text_rest, ends_text}
use Rattle.reader.specs.StepLaws.{word_read, word_none}

-- ── the octets of a last word ──

-- r - i octets are ahead
pub record Ends (s : State) (w r : ℕ) (t : State) (v i : ℕ) : Type 0 where
  pub same : ends_text (meaning s) r w ≡ ends_text (meaning t) (r - i) v

module _ (s : State) (w r : ℕ) where
  pub ends_start : Ends s w r s w 0
  ends_start = let z : r - 0 ≡ r = omega arith in record { same = ap (λ n. ends_text (meaning s) n w) (sym z) }

  pub ends_next : (t : State) (v i : ℕ) {t₂ : State} → Ends s w r t v i → i < r → meaning t₂ ≡ next (meaning t) (v % 256) → Ends s w r t₂ (v / 256) (i + 1)
  unfolding ends_text
  ends_next t v i {t₂} e h k =
      let z : r - i ≡ suc (r - (i + 1)) = omega arith in
      record { same = e.same ∙ ap (λ n. ends_text (meaning t) n v) z ∙ ap (λ p. ends_text p (r - (i + 1)) (v / 256)) (sym k) }

  ends_with : (t : State) (v i : ℕ) → Ends s w r t v i → r ≤ i → ends_text (meaning s) r w ≡ (done (meaning t) && eqb v 0)
  unfolding ends_text
  ends_with t v i e h = let z : r - i ≡ 0 = omega arith in e.same ∙ ap (λ n. ends_text (meaning t) n v) z

  pub ends_done : (t : State) (v i : ℕ) {x : Bool} → Ends s w r t v i → r ≤ i → v ≡ 0 → x ≡ done (meaning t) → x ≡ ends_text (meaning s) r w
  ends_done t v i {x} e h z k = k ∙ sym (ends_with t v i e h ∙ ap (λ b. done (meaning t) && b) (eq-eqb v 0 z) ∙ and-true (done (meaning t)))

  pub ends_more : (t : State) (v i : ℕ) → Ends s w r t v i → r ≤ i → (v ≡ 0 → ⊥) → false ≡ ends_text (meaning s) r w
  ends_more t v i e h z = sym (ends_with t v i e h ∙ ap (λ b. done (meaning t) && b) (ne_eqb v 0 z) ∙ and-false (done (meaning t)))

pub ruleset ending = (ends_start, ends_next, ends_done, ends_more)

-- ── the bytes that they are ──

zero_bytes : (k w : ℕ) → w < 256 ^ k → all_of (eqb 0) (bytes_of k w) ≡ eqb w 0
unfolding bytes_of
zero_bytes zero w h = sym (eq-eqb w 0 (omega arith))
zero_bytes (suc k) w h =
    let l : w / 256 < 256 ^ k = omega arith in
    ap (λ b. eqb 0 (w % 256) && b) (zero_bytes k (w / 256) l) ∙ go (dec_lt 0 w)
  where
    go : Dec (0 < w) → (eqb 0 (w % 256) && eqb (w / 256) 0) ≡ eqb w 0
    go (no n) = let e : w ≡ 0 = omega arith in rw e
    go (yes p) = more (dec_lt 0 (w % 256))
      where
        more : Dec (0 < w % 256) → (eqb 0 (w % 256) && eqb (w / 256) 0) ≡ eqb w 0
        more (yes q) = rw (ne_eqb 0 (w % 256) (λ e. omega arith)) (sym (ne_eqb w 0 (λ e. omega arith)))
        more (no q) = ap (λ b. eqb 0 (w % 256) && b) (ne_eqb (w / 256) 0 (λ e. omega arith)) ∙ and-false (eqb 0 (w % 256)) ∙ sym (ne_eqb w 0 (λ e. omega arith))

ends_bytes : (p : Place) (r k w : ℕ) → r ≤ k → w < 256 ^ k → good_rest p r (bytes_of k w) ≡ ends_text p r w
unfolding good_rest ends_text after bytes_of
ends_bytes p zero k w h l = ap (λ b. done p && b) (zero_bytes k w l)
ends_bytes p (suc r) zero w h l = absurd (omega arith)
ends_bytes p (suc r) (suc k) w h l = ends_bytes (next p (w % 256)) r k (w / 256) (omega arith) (omega arith)

-- ── the rest of a string ──

-- the bytes that were read do not count
step_cond : (b : Bool) (x ws : List ℕ) (q : ℕ) → step_of (cond {A = Reader (List ℕ)} b (pure x) fail ws q) ≡ cond b (Some q) None
unfolding step_of
step_cond true x ws q = refl
step_cond false x ws q = refl

-- where the rest of a string ends, by the words of its bytes
abbrev ended : Place → ℕ → Got (List ℕ) → Option ℕ
ended p m broken = None
ended p m (got us q) = cond (good_rest p m (concat_map (bytes_of 4) us)) (Some q) None

rest_is : (p : Place) (m : ℕ) (ws : List ℕ) (q : ℕ) → step_of (text_rest p m ws q) ≡ ended p m (many (words_for m) word ws q)
unfolding text_rest
rest_is p m ws q = go (many (words_for m) word ws q)
  where
    go : (g : Got (List ℕ)) → step_of (and_then g (λ us q. cond {A = Reader (List ℕ)} (good_rest p m (concat_map (bytes_of 4) us)) (pure (take m (concat_map (bytes_of 4) us))) fail ws q)) ≡ ended p m g
    go broken = unfold step_of in refl
    go (got us q) = step_cond (good_rest p m (concat_map (bytes_of 4) us)) (take m (concat_map (bytes_of 4) us)) ws q

-- a whole word more
rest_word : (p : Place) (m : ℕ) (ws : List ℕ) (q : ℕ) {w : ℕ} → word ws q ≡ got w (q + 1)
    → step_of (text_rest p (suc (suc (suc (suc m)))) ws q) ≡ step_of (text_rest (after p (bytes_of 4 w)) m ws (q + 1))
unfolding many
rest_word p m ws q {w} e =
    let z : words_for (suc (suc (suc (suc m)))) ≡ suc (words_for m) = unfold words_for in omega arith in
    rest_is p (suc (suc (suc (suc m)))) ws q
    ∙ ap (λ n. ended p (suc (suc (suc (suc m)))) (many n word ws q)) z
    ∙ ap (λ g. ended p (suc (suc (suc (suc m)))) (and_then g (λ a p. and_then (many (words_for m) word ws p) (λ us r. got (a ∷ us) r)))) e
    ∙ go (many (words_for m) word ws (q + 1))
    ∙ sym (rest_is (after p (bytes_of 4 w)) m ws (q + 1))
  where
    go : (g : Got (List ℕ)) → ended p (suc (suc (suc (suc m)))) (and_then g (λ us r. got (w ∷ us) r)) ≡ ended (after p (bytes_of 4 w)) m g
    go broken = refl
    go (got us q) = unfold good_rest after bytes_of in refl

-- a word more, and none there
rest_none : (p : Place) (m : ℕ) (ws : List ℕ) (q : ℕ) → 0 < m → word ws q ≡ broken → step_of (text_rest p m ws q) ≡ None
unfolding many
rest_none p m ws q h e =
    let z : words_for m ≡ suc (words_for m - 1) = unfold words_for in omega arith in
    rest_is p m ws q
    ∙ ap (λ n. ended p m (many n word ws q)) z
    ∙ ap (λ g. ended p m (and_then g (λ a r. and_then (many (words_for m - 1) word ws r) (λ us t. got (a ∷ us) t)))) e

-- nothing more
rest_over : (p : Place) (m : ℕ) (ws : List ℕ) (q : ℕ) {x : Bool} → m ≡ 0 → done p ≡ x → step_of (text_rest p m ws q) ≡ cond x (Some q) None
unfolding many words_for good_rest after
rest_over p m ws q z e = ap (λ m. step_of (text_rest p m ws q)) z ∙ rest_is p 0 ws q ∙ ap (λ y. cond y (Some q) None) (and-true (done p) ∙ e)

-- the last word, of fewer than four bytes
rest_last : (p : Place) (m : ℕ) (ws : List ℕ) (q : ℕ) {w : ℕ} {x : Bool} → 0 < m → m < 4 → word ws q ≡ got w (q + 1) → w < 4294967296 → ends_text p m w ≡ x
    → step_of (text_rest p m ws q) ≡ cond x (Some (q + 1)) None
unfolding many
rest_last p m ws q {w} {x} h l e k f =
    let z : words_for m ≡ 1 = unfold words_for in omega arith in
    rest_is p m ws q
    ∙ ap (λ n. ended p m (many n word ws q)) z
    ∙ ap (λ g. ended p m (and_then g (λ a r. got (a ∷ []) r))) e
    ∙ ap (λ y. cond y (Some (q + 1)) None) (ap (good_rest p m) (append-nil (bytes_of 4 w)) ∙ ends_bytes p m 4 w (omega arith) k ∙ f)

-- ── the words of a string ──

module _ (b : List ℕ) (n at : ℕ) where
  -- i words are behind, and the rest from p on gives the answer
  pub record Texts (length i p : ℕ) (s : State) : Type 0 where
    pub same : step_of (string (first_words b n) at) ≡ step_of (text_rest (meaning s) (length - 4 * i) (first_words b n) p)

  pub string_none : n ≤ at → None ≡ step_of (string (first_words b n) at)
  unfolding string step_of
  string_none h = rw (word_none b n at h)

  pub texts_start : {w : ℕ} → at < n → w ≡ get_or (words b) at 0 → Texts w 0 (at + 1) Done
  unfolding string text_rest good_text good_rest well_formed meaning
  texts_start {w} h e =
      let z : w ≡ w - 4 * 0 = omega arith in
      record { same = rw (word_read b n at h e) (ap (λ m. step_of (text_rest (due []) m (first_words b n) (at + 1))) z) }

  pub texts_next : (length i p : ℕ) (s s₂ : State) {w : ℕ} → Texts length i p s → i < length / 4 → p < n → w ≡ get_or (words b) p 0 → meaning s₂ ≡ after (meaning s) (octets w)
      → Texts length (i + 1) (p + 1) s₂
  unfolding octets bytes_of
  texts_next length i p s s₂ {w} t h l e k =
      let m = length - 4 * (i + 1) in
      let z : length - 4 * i ≡ suc (suc (suc (suc m))) = omega arith in
      record {
        same =
            t.same
            ∙ ap (λ m. step_of (text_rest (meaning s) m (first_words b n) p)) z
            ∙ rest_word (meaning s) m (first_words b n) p (word_read b n p l e)
            ∙ ap (λ x. step_of (text_rest x m (first_words b n) (p + 1))) (sym k);
      }

  pub texts_stop : (length i p : ℕ) (s : State) → Texts length i p s → i < length / 4 → n ≤ p → None ≡ step_of (string (first_words b n) at)
  texts_stop length i p s t h l = sym (t.same ∙ rest_none (meaning s) (length - 4 * i) (first_words b n) p (omega arith) (word_none b n p l))

  pub texts_end : (length i p : ℕ) (s : State) {r : Option ℕ} → Texts length i p s → i ≤ length / 4 → length / 4 ≤ i → r ≡ step_of (text_rest (meaning s) (length % 4) (first_words b n) p)
      → r ≡ step_of (string (first_words b n) at)
  texts_end length i p s t l h e = let z : length % 4 ≡ length - 4 * i = omega arith in e ∙ ap (λ m. step_of (text_rest (meaning s) m (first_words b n) p)) z ∙ sym t.same

pub ruleset texting = (string_none, texts_start, texts_next, texts_stop, texts_end)

-- ── the last word of a string ──

module _ (b : List ℕ) (n at : ℕ) (s : State) (length : ℕ) where
  pub rest_done : {x : Bool} → length % 4 ≡ 0 → x ≡ true → x ≡ done (meaning s) → Some at ≡ step_of (text_rest (meaning s) (length % 4) (first_words b n) at)
  rest_done z t e = sym (rest_over (meaning s) (length % 4) (first_words b n) at z (sym e ∙ t))

  pub rest_cut : {x : Bool} → length % 4 ≡ 0 → x ≡ false → x ≡ done (meaning s) → None ≡ step_of (text_rest (meaning s) (length % 4) (first_words b n) at)
  rest_cut z t e = sym (rest_over (meaning s) (length % 4) (first_words b n) at z (sym e ∙ t))

  pub rest_short : (length % 4 ≡ 0 → ⊥) → n ≤ at → None ≡ step_of (text_rest (meaning s) (length % 4) (first_words b n) at)
  rest_short z h = sym (rest_none (meaning s) (length % 4) (first_words b n) at (omega arith) (word_none b n at h))

  pub rest_ends : {w : ℕ} {x : Bool} → (length % 4 ≡ 0 → ⊥) → at < n → w ≡ get_or (words b) at 0 → w < 4294967296 → x ≡ true → x ≡ ends_text (meaning s) (length % 4) w
      → Some (at + 1) ≡ step_of (text_rest (meaning s) (length % 4) (first_words b n) at)
  rest_ends z h e l t k = sym (rest_last (meaning s) (length % 4) (first_words b n) at (omega arith) (omega arith) (word_read b n at h e) l (sym k ∙ t))

  pub rest_wrong : {w : ℕ} {x : Bool} → (length % 4 ≡ 0 → ⊥) → at < n → w ≡ get_or (words b) at 0 → w < 4294967296 → x ≡ false → x ≡ ends_text (meaning s) (length % 4) w
      → None ≡ step_of (text_rest (meaning s) (length % 4) (first_words b n) at)
  rest_wrong z h e l t k = sym (rest_last (meaning s) (length % 4) (first_words b n) at (omega arith) (omega arith) (word_read b n at h e) l (sym k ∙ t))

pub ruleset resting = (rest_done, rest_cut, rest_short, rest_ends, rest_wrong)
