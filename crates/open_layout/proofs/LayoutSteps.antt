-- Where the parts of a sheet stand, step by step.
use Prim.Native.Nat.{ℕ}
use mathlib.Core.Path.{◌≡◌, refl, sym, ap, ◌∙◌}
use mathlib.Core.List.{List}
use mathlib.Core.Bool.{Bool, cond}
use Rattle.std.specs.Prelude.{Option, None, Some}
use lib.ListN.{length}
use borrow.Author.Tests.{eq-eqb, ne_eqb}
use Rattle.blocks.specs.Blocks.{framed}
use Rattle.blocks.specs.Frame.{first_words}
use Rattle.blocks.specs.Frame.{frame_of}
use Rattle.blocks.proofs.FirstWords.{first_words_framed, frame_found, frame_none}
use Rattle.reader.specs.Reader.{Got, broken, got, and_then, word, list_of, whole, content}
use Rattle.reader.specs.Text.{string}
use Rattle.reader.specs.Step.{step_of}
use Rattle.sheet_reader.specs.Taken.{taken_of}
use Rattle.sheet_reader.specs.TakenLaws.{word_taken, none_taken}
use Rattle.sheet.specs.Editions.{newest_edition}
use Rattle.sheet.specs.Decode.{type_def, const_of, import_of, global_of, function_of, hook_of, export_of}
use Rattle.open_layout.specs.declared.Layout.{Layout}
use Rattle.open_layout.specs.Layout.{size, pos_of, layout_of, layout}
use Rattle.open_layout.specs.Parts.{on, ended, laid, first_parts, middle_parts, last_parts}

on_next : {r s : Option ℕ} (p : ℕ) (k : ℕ → Option Layout) → r ≡ Some p → r ≡ s → on s k ≡ k p
unfolding on
on_next p k e f = ap (λ x. on x k) (sym f ∙ e)

on_stop : {r s : Option ℕ} (k : ℕ → Option Layout) → r ≡ None → r ≡ s → on s k ≡ None
unfolding on
on_stop k e f = ap (λ x. on x k) (sym f ∙ e)

-- a part is where it begins, and what follows goes on where it ends
on_part : {A : Type 0} (n p : ℕ) (g : Got A) (f : ℕ → ℕ → Got Layout) (k : ℕ → Option Layout) → ((q : ℕ) → whole n (f p q) ≡ k q) →
    whole n (and_then (and_then g (λ a q. got p q)) f) ≡ on (step_of g) k
unfolding on step_of whole
on_part n p broken f k h = refl
on_part n p (got a q) f k h = h q

ended_is : (n : ℕ) (l : Layout) (q : ℕ) → whole n (got l q) ≡ ended n l q
unfolding whole ended
ended_is n l q = refl

steps : (ws : List ℕ) (n : ℕ) → length ws ≡ n → whole n (layout_of ws 2) ≡ first_parts n ws
unfolding layout_of pos_of size first_parts middle_parts last_parts
steps ws n e =
    rw e
    (on_part n 2 (list_of string ws 2) _ _ λ p₁.
    on_part n p₁ (list_of type_def ws p₁) _ _ λ p₂.
    on_part n p₂ (list_of const_of ws p₂) _ _ λ p₃.
    on_part n p₃ (list_of import_of ws p₃) _ _ λ p₄.
    on_part n p₄ (list_of global_of ws p₄) _ _ λ p₅.
    on_part n p₅ (list_of function_of ws p₅) _ _ λ p₆.
    on_part n p₆ (list_of hook_of ws p₆) _ _ λ p₇.
    on_part n p₇ (word ws p₇) _ _ λ p₈.
    on_part n p₈ (list_of export_of ws p₈) _ _ (ended_is n (laid n p₁ p₂ p₃ p₄ p₅ p₆ p₇ p₈)))

-- ── strings, types, constants ──

module _ (n : ℕ) (ws : List ℕ) where
  pub strings_stop : {r : Option ℕ} → r ≡ None → r ≡ step_of (list_of string ws 2) → None ≡ first_parts n ws
  unfolding first_parts
  strings_stop a b = sym (on_stop _ a b)

  module _ (p₁ : ℕ) {r₁ : Option ℕ} (a₁ : r₁ ≡ Some p₁) (b₁ : r₁ ≡ step_of (list_of string ws 2)) where
    pub types_stop : {r : Option ℕ} → r ≡ None → r ≡ step_of (list_of type_def ws p₁) → None ≡ first_parts n ws
    unfolding first_parts
    types_stop a b = sym (on_next p₁ _ a₁ b₁ ∙ on_stop _ a b)

    module _ (p₂ : ℕ) {r₂ : Option ℕ} (a₂ : r₂ ≡ Some p₂) (b₂ : r₂ ≡ step_of (list_of type_def ws p₁)) where
      pub consts_stop : {r : Option ℕ} → r ≡ None → r ≡ step_of (list_of const_of ws p₂) → None ≡ first_parts n ws
      unfolding first_parts
      consts_stop a b = sym (on_next p₁ _ a₁ b₁ ∙ on_next p₂ _ a₂ b₂ ∙ on_stop _ a b)

      pub consts_next : (p₃ : ℕ) {x : Option Layout} {s : Option ℕ} → s ≡ Some p₃ → s ≡ step_of (list_of const_of ws p₂) → x ≡ middle_parts n ws p₁ p₂ p₃ → x ≡ first_parts n ws
      unfolding first_parts
      consts_next p₃ a b k = k ∙ sym (on_next p₁ _ a₁ b₁ ∙ on_next p₂ _ a₂ b₂ ∙ on_next p₃ _ a b)

-- ── imports, globals, functions ──

module _ (n : ℕ) (ws : List ℕ) (p₁ p₂ p₃ : ℕ) where
  pub imports_stop : {r : Option ℕ} → r ≡ None → r ≡ step_of (list_of import_of ws p₃) → None ≡ middle_parts n ws p₁ p₂ p₃
  unfolding middle_parts
  imports_stop a b = sym (on_stop _ a b)

  module _ (p₄ : ℕ) {r₁ : Option ℕ} (a₁ : r₁ ≡ Some p₄) (b₁ : r₁ ≡ step_of (list_of import_of ws p₃)) where
    pub globals_stop : {r : Option ℕ} → r ≡ None → r ≡ step_of (list_of global_of ws p₄) → None ≡ middle_parts n ws p₁ p₂ p₃
    unfolding middle_parts
    globals_stop a b = sym (on_next p₄ _ a₁ b₁ ∙ on_stop _ a b)

    module _ (p₅ : ℕ) {r₂ : Option ℕ} (a₂ : r₂ ≡ Some p₅) (b₂ : r₂ ≡ step_of (list_of global_of ws p₄)) where
      pub funcs_stop : {r : Option ℕ} → r ≡ None → r ≡ step_of (list_of function_of ws p₅) → None ≡ middle_parts n ws p₁ p₂ p₃
      unfolding middle_parts
      funcs_stop a b = sym (on_next p₄ _ a₁ b₁ ∙ on_next p₅ _ a₂ b₂ ∙ on_stop _ a b)

      pub funcs_next : (p₆ : ℕ) {x : Option Layout} {s : Option ℕ} → s ≡ Some p₆ → s ≡ step_of (list_of function_of ws p₅) → x ≡ last_parts n ws p₁ p₂ p₃ p₄ p₅ p₆ → x ≡ middle_parts n ws p₁ p₂ p₃
      unfolding middle_parts
      funcs_next p₆ a b k = k ∙ sym (on_next p₄ _ a₁ b₁ ∙ on_next p₅ _ a₂ b₂ ∙ on_next p₆ _ a b)

-- ── hooks, start, exports ──

module _ (n : ℕ) (ws : List ℕ) (p₁ p₂ p₃ p₄ p₅ p₆ : ℕ) where
  pub hooks_stop : {r : Option ℕ} → r ≡ None → r ≡ step_of (list_of hook_of ws p₆) → None ≡ last_parts n ws p₁ p₂ p₃ p₄ p₅ p₆
  unfolding last_parts
  hooks_stop a b = sym (on_stop _ a b)

  module _ (p₇ : ℕ) {r₁ : Option ℕ} (a₁ : r₁ ≡ Some p₇) (b₁ : r₁ ≡ step_of (list_of hook_of ws p₆)) {t : Option (ℕ × ℕ)} where
    pub start_stop : t ≡ None → t ≡ taken_of (word ws p₇) → None ≡ last_parts n ws p₁ p₂ p₃ p₄ p₅ p₆
    unfolding last_parts step_of
    start_stop a b = sym (on_next p₇ _ a₁ b₁ ∙ on_stop _ refl (sym (ap step_of (none_taken (word ws p₇) a b))))

    module _ (w p₈ : ℕ) (a₂ : t ≡ Some (w, p₈)) (b₂ : t ≡ taken_of (word ws p₇)) where
      start_here : Some p₈ ≡ step_of (word ws p₇)
      unfolding step_of
      start_here = sym (ap step_of (word_taken (word ws p₇) a₂ b₂))

      pub exports_stop : {r : Option ℕ} → r ≡ None → r ≡ step_of (list_of export_of ws p₈) → None ≡ last_parts n ws p₁ p₂ p₃ p₄ p₅ p₆
      unfolding last_parts
      exports_stop a b = sym (on_next p₇ _ a₁ b₁ ∙ on_next p₈ _ refl start_here ∙ on_stop _ a b)

      module _ (p₉ : ℕ) {r₂ : Option ℕ} (a₃ : r₂ ≡ Some p₉) (b₃ : r₂ ≡ step_of (list_of export_of ws p₈)) where
        at_end : last_parts n ws p₁ p₂ p₃ p₄ p₅ p₆ ≡ ended n (laid n p₁ p₂ p₃ p₄ p₅ p₆ p₇ p₈) p₉
        unfolding last_parts
        at_end = on_next p₇ _ a₁ b₁ ∙ on_next p₈ _ refl start_here ∙ on_next p₉ _ a₃ b₃

        pub ends_whole : p₉ ≡ n → Some (laid n p₁ p₂ p₃ p₄ p₅ p₆ p₇ p₈) ≡ last_parts n ws p₁ p₂ p₃ p₄ p₅ p₆
        unfolding ended
        ends_whole e = sym (at_end ∙ ap (λ (b : Bool). cond b (Some (laid n p₁ p₂ p₃ p₄ p₅ p₆ p₇ p₈)) None) (eq-eqb p₉ n e))

        pub ends_elsewhere : (p₉ ≡ n → ⊥) → None ≡ last_parts n ws p₁ p₂ p₃ p₄ p₅ p₆
        unfolding ended
        ends_elsewhere e = sym (at_end ∙ ap (λ (b : Bool). cond b (Some (laid n p₁ p₂ p₃ p₄ p₅ p₆ p₇ p₈)) None) (ne_eqb p₉ n e))

-- ── the bytes ──

module _ (bytes : List ℕ) where
  pub framed_next : (n : ℕ) {r : Option ℕ} {x : Option Layout} → r ≡ Some n → r ≡ frame_of (framed newest_edition bytes) →
      x ≡ first_parts n (first_words bytes n) → x ≡ layout bytes
  unfolding layout content
  framed_next n e f k =
      frame_found (framed newest_edition bytes) e f λ ws q l.
      k
      ∙ ap (λ m. first_parts m (first_words bytes m)) l
      ∙ ap (first_parts (length ws)) (first_words_framed newest_edition bytes ws q)
      ∙ sym (steps ws (length ws) refl)
      ∙ sym (ap (content layout_of) q)

  pub framed_stop : {r : Option ℕ} → r ≡ None → r ≡ frame_of (framed newest_edition bytes) → None ≡ layout bytes
  unfolding layout content
  framed_stop e f = sym (ap (content layout_of) (frame_none (framed newest_edition bytes) e f))

pub ruleset firsts = (strings_stop, types_stop, consts_stop, consts_next)

pub ruleset middles = (imports_stop, globals_stop, funcs_stop, funcs_next)

pub ruleset lasts = (hooks_stop, start_stop, exports_stop, ends_whole, ends_elsewhere)

pub ruleset frames = (framed_next, framed_stop)
