-- Where functions end.
use Prim.Native.Nat.{ℕ, ◌+◌, ◌%◌, ◌≤◌, ◌<◌}
use mathlib.Core.Path.{◌≡◌, refl, sym, ap, ◌∙◌}
use mathlib.Core.List.{List}
use lib.ListN.{get_or}
use borrow.Author.Tests.{lt-ltb, le-ltb}
use Rattle.blocks.specs.Blocks.{words}
use Rattle.blocks.specs.Frame.{first_words}
use Rattle.std.specs.Prelude.{Option, None, Some}
use Rattle.reader.specs.Reader.{Got, and_then, word, many, list_of}
use Rattle.reader.specs.Step.{step_of}
use Rattle.reader.specs.StepLaws.{word_read, word_none, arrived, stuck, make}
use Rattle.reader.specs.AlikeLaws.{two_on, ends_alike, then_alike, into_alike}
use Rattle.reader.proofs.RecordSteps.{sized_word, sized_list}
use Rattle.sheet_reader.specs.Taken.{taken_of}
use Rattle.sheet_reader.specs.TakenLaws.{word_taken, none_taken}
use Rattle.sheet.specs.Module.{opcode}
use Rattle.sheet.specs.Decode.{value_type, param_list, arg_of, handler_of, switch_of, known_code, inst_of, function_of}
use Rattle.sheet.proofs.SizeLaws.{handler_sized, shapes_alike}
use Rattle.open_funcs.specs.Halves.{frame_half, body_of, code_half}

-- ── jump tables ──

module _ (ws : List ℕ) (at p : ℕ) {r : Option ℕ} (e : r ≡ Some p) (k : r ≡ step_of (list_of (many 1 word) ws at)) {t : Option (ℕ × ℕ)} where
  pub switch_next : (w q : ℕ) → t ≡ Some (w, q) → t ≡ taken_of (word ws p) → Some q ≡ step_of (switch_of ws at)
  unfolding switch_of step_of
  switch_next w q h l = arrived (list_of word ws at) e (sized_list sized_word ws at k) λ ts g. rw (g, word_taken (word ws p) h l)

  pub switch_short : t ≡ None → t ≡ taken_of (word ws p) → None ≡ step_of (switch_of ws at)
  unfolding switch_of step_of
  switch_short h l = arrived (list_of word ws at) e (sized_list sized_word ws at k) λ ts g. rw (g, none_taken (word ws p) h l)

pub switch_stop : (ws : List ℕ) (at : ℕ) {r : Option ℕ} → r ≡ None → r ≡ step_of (list_of (many 1 word) ws at) → None ≡ step_of (switch_of ws at)
unfolding switch_of step_of
switch_stop ws at e k = rw (stuck (list_of word ws at) e (sized_list sized_word ws at k))

-- ── instructions ──

module _ (bytes : List ℕ) (n at : ℕ) {w : ℕ} where
  pub inst_next : at < n → at + 1 < n → w ≡ get_or (words bytes) at 0 → w % 256 < 35 → Some (at + 2) ≡ step_of (inst_of (first_words bytes n) at)
  unfolding inst_of known_code opcode step_of
  inst_next h l e k = rw (word_read bytes n at h e, word_read bytes n (at + 1) l refl, lt-ltb (w % 256) 35 k, two_on at)

  pub inst_unlisted : at < n → at + 1 < n → w ≡ get_or (words bytes) at 0 → 35 ≤ w % 256 → None ≡ step_of (inst_of (first_words bytes n) at)
  unfolding inst_of known_code opcode step_of
  inst_unlisted h l e k = rw (word_read bytes n at h e, word_read bytes n (at + 1) l refl, le-ltb (w % 256) 35 k)

pub inst_short : (bytes : List ℕ) (n at : ℕ) → at < n → n ≤ at + 1 → None ≡ step_of (inst_of (first_words bytes n) at)
unfolding inst_of step_of
inst_short bytes n at h l = rw (word_read bytes n at h refl, word_none bytes n (at + 1) l)

pub inst_past : (bytes : List ℕ) (n at : ℕ) → n ≤ at → None ≡ step_of (inst_of (first_words bytes n) at)
unfolding inst_of step_of
inst_past bytes n at h = rw (word_none bytes n at h)

-- ── the halves ──

module _ (bytes : List ℕ) (n at : ℕ) where
  pub frame_next : (p₁ p₂ p₃ : ℕ) {r₁ r₂ r₃ x : Option ℕ} → at < n → r₁ ≡ Some p₁ → r₁ ≡ step_of (list_of value_type (first_words bytes n) (at + 1)) →
      r₂ ≡ Some p₂ → r₂ ≡ step_of (param_list (first_words bytes n) p₁) → r₃ ≡ Some p₃ → r₃ ≡ step_of (list_of (list_of (many 2 word)) (first_words bytes n) p₂) →
      x ≡ step_of (list_of value_type (first_words bytes n) p₃) → x ≡ step_of (frame_half (first_words bytes n) at)
  unfolding frame_half
  frame_next p₁ p₂ p₃ h a b c d e f k =
      let ws = first_words bytes n in
      arrived (list_of value_type ws (at + 1)) a b λ rs g₁.
      arrived (param_list ws p₁) c d λ ps g₂.
      arrived (list_of (list_of arg_of) ws p₂) e (shapes_alike ws p₂ f) λ ss g₃.
      rw (word_read bytes n at h refl, g₁, g₂, g₃) (k ∙ sym (make (list_of value_type ws p₃) (λ cs. get_or (words bytes) at 0)))

  pub frame_stop_3 : (p₁ p₂ : ℕ) {r₁ r₂ r₃ : Option ℕ} → at < n → r₁ ≡ Some p₁ → r₁ ≡ step_of (list_of value_type (first_words bytes n) (at + 1)) →
      r₂ ≡ Some p₂ → r₂ ≡ step_of (param_list (first_words bytes n) p₁) → r₃ ≡ None → r₃ ≡ step_of (list_of (list_of (many 2 word)) (first_words bytes n) p₂) →
      None ≡ step_of (frame_half (first_words bytes n) at)
  unfolding frame_half step_of
  frame_stop_3 p₁ p₂ h a b c d e f =
      let ws = first_words bytes n in
      arrived (list_of value_type ws (at + 1)) a b λ rs g₁.
      arrived (param_list ws p₁) c d λ ps g₂.
      rw (word_read bytes n at h refl, g₁, g₂, stuck (list_of (list_of arg_of) ws p₂) e (shapes_alike ws p₂ f))

  pub frame_stop_2 : (p₁ : ℕ) {r₁ r₂ : Option ℕ} → at < n → r₁ ≡ Some p₁ → r₁ ≡ step_of (list_of value_type (first_words bytes n) (at + 1)) →
      r₂ ≡ None → r₂ ≡ step_of (param_list (first_words bytes n) p₁) → None ≡ step_of (frame_half (first_words bytes n) at)
  unfolding frame_half step_of
  frame_stop_2 p₁ h a b c d =
      arrived (list_of value_type (first_words bytes n) (at + 1)) a b λ rs g₁. rw (word_read bytes n at h refl, g₁, stuck (param_list (first_words bytes n) p₁) c d)

  pub frame_stop_1 : {r₁ : Option ℕ} → at < n → r₁ ≡ None → r₁ ≡ step_of (list_of value_type (first_words bytes n) (at + 1)) → None ≡ step_of (frame_half (first_words bytes n) at)
  unfolding frame_half step_of
  frame_stop_1 h a b = rw (word_read bytes n at h refl, stuck (list_of value_type (first_words bytes n) (at + 1)) a b)

  pub frame_past : n ≤ at → None ≡ step_of (frame_half (first_words bytes n) at)
  unfolding frame_half step_of
  frame_past h = rw (word_none bytes n at h)

module _ (ws : List ℕ) where
  pub body_next : (at p : ℕ) {r x : Option ℕ} → r ≡ Some p → r ≡ step_of (list_of switch_of ws at) → x ≡ step_of (list_of inst_of ws p) → x ≡ step_of (body_of ws at)
  unfolding body_of
  body_next at p a b k = arrived (list_of switch_of ws at) a b λ ss g. rw g (k ∙ sym (make (list_of inst_of ws p) (λ is. is)))

  pub body_stop : (at : ℕ) {r : Option ℕ} → r ≡ None → r ≡ step_of (list_of switch_of ws at) → None ≡ step_of (body_of ws at)
  unfolding body_of step_of
  body_stop at a b = rw (stuck (list_of switch_of ws at) a b)

  pub code_next : (at p₁ p₂ p₃ : ℕ) {r₁ r₂ r₃ x : Option ℕ} → r₁ ≡ Some p₁ → r₁ ≡ step_of (list_of (many 1 word) ws at) →
      r₂ ≡ Some p₂ → r₂ ≡ step_of (list_of (many 1 word) ws p₁) → r₃ ≡ Some p₃ → r₃ ≡ step_of (list_of (many 4 word) ws p₂) →
      x ≡ step_of (body_of ws p₃) → x ≡ step_of (code_half ws at)
  unfolding code_half
  code_next at p₁ p₂ p₃ a b c d e f k =
      arrived (list_of word ws at) a (sized_list sized_word ws at b) λ ns g₁.
      arrived (list_of word ws p₁) c (sized_list sized_word ws p₁ d) λ ts g₂.
      arrived (list_of handler_of ws p₂) e (sized_list handler_sized ws p₂ f) λ hs g₃.
      rw (g₁, g₂, g₃) k

  pub code_stop_3 : (at p₁ p₂ : ℕ) {r₁ r₂ r₃ : Option ℕ} → r₁ ≡ Some p₁ → r₁ ≡ step_of (list_of (many 1 word) ws at) →
      r₂ ≡ Some p₂ → r₂ ≡ step_of (list_of (many 1 word) ws p₁) → r₃ ≡ None → r₃ ≡ step_of (list_of (many 4 word) ws p₂) → None ≡ step_of (code_half ws at)
  unfolding code_half step_of
  code_stop_3 at p₁ p₂ a b c d e f =
      arrived (list_of word ws at) a (sized_list sized_word ws at b) λ ns g₁.
      arrived (list_of word ws p₁) c (sized_list sized_word ws p₁ d) λ ts g₂.
      rw (g₁, g₂, stuck (list_of handler_of ws p₂) e (sized_list handler_sized ws p₂ f))

  pub code_stop_2 : (at p₁ : ℕ) {r₁ r₂ : Option ℕ} → r₁ ≡ Some p₁ → r₁ ≡ step_of (list_of (many 1 word) ws at) →
      r₂ ≡ None → r₂ ≡ step_of (list_of (many 1 word) ws p₁) → None ≡ step_of (code_half ws at)
  unfolding code_half step_of
  code_stop_2 at p₁ a b c d =
      arrived (list_of word ws at) a (sized_list sized_word ws at b) λ ns g₁. rw (g₁, stuck (list_of word ws p₁) c (sized_list sized_word ws p₁ d))

  pub code_stop_1 : (at : ℕ) {r₁ : Option ℕ} → r₁ ≡ None → r₁ ≡ step_of (list_of (many 1 word) ws at) → None ≡ step_of (code_half ws at)
  unfolding code_half step_of
  code_stop_1 at a b = rw (stuck (list_of word ws at) a (sized_list sized_word ws at b))

  halves : (at : ℕ) → step_of (function_of ws at) ≡ step_of (and_then (frame_half ws at) (λ s p. code_half ws p))
  unfolding function_of frame_half code_half body_of
  halves at =
      into_alike (word ws at) _ _ _ λ s p₁.
      into_alike (list_of value_type ws p₁) _ _ _ λ rs p₂.
      into_alike (param_list ws p₂) _ _ _ λ ps p₃.
      into_alike (list_of (list_of arg_of) ws p₃) _ _ _ λ ss p₄.
      into_alike (list_of value_type ws p₄) _ _ _ λ cs p₅.
      then_alike (list_of word ws p₅) _ _ λ ns p₆.
      then_alike (list_of word ws p₆) _ _ λ ts p₇.
      then_alike (list_of handler_of ws p₇) _ _ λ hs p₈.
      then_alike (list_of switch_of ws p₈) _ _ λ tables p₉.
      then_alike (list_of inst_of ws p₉) _ _ λ is q. ends_alike _ _ q

  pub function_next : (at p : ℕ) {r x : Option ℕ} → r ≡ Some p → r ≡ step_of (frame_half ws at) → x ≡ step_of (code_half ws p) → x ≡ step_of (function_of ws at)
  function_next at p a b k = arrived (frame_half ws at) a b λ s g. k ∙ sym (halves at ∙ ap (λ (x : Got ℕ). step_of (and_then x (λ s q. code_half ws q))) g)

  pub function_stop : (at : ℕ) {r : Option ℕ} → r ≡ None → r ≡ step_of (frame_half ws at) → None ≡ step_of (function_of ws at)
  function_stop at a b = sym (halves at ∙ ap (λ (x : Got ℕ). step_of (and_then x (λ s q. code_half ws q))) (stuck (frame_half ws at) a b) ∙ (unfold step_of in refl))

pub ruleset tables = (switch_next, switch_short, switch_stop)

pub ruleset insts = (inst_next, inst_unlisted, inst_short, inst_past)

pub ruleset frames = (frame_next, frame_stop_1, frame_stop_2, frame_stop_3, frame_past)

pub ruleset bodies = (body_next, body_stop)

pub ruleset codes = (code_next, code_stop_1, code_stop_2, code_stop_3)

pub ruleset functions = (function_next, function_stop)
