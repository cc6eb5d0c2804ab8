-- Where the parts of a function stand, from where the steps through them end.
use Prim.Native.Nat.{ℕ, ◌+◌, ◌<◌}
use mathlib.Core.Path.{◌≡◌, refl, sym, ap, subst, ◌∙◌}
use mathlib.Core.List.{List}
use native.Mathlib.Omega.{arith}
use native.Mathlib.Decide.{dec_lt}
use lib.ListN.{get_or}
use Rattle.blocks.specs.Blocks.{words}
use Rattle.blocks.specs.Frame.{first_words}
use Rattle.std.specs.Prelude.{Option}
use Rattle.std.specs.Option.{unwrap_or}
use Rattle.reader.specs.Reader.{broken, got, Reader, word, many, list_of}
use Rattle.reader.specs.ReaderLaws.{then_inv}
use Rattle.reader.specs.Step.{step_of}
use Rattle.reader.specs.StepLaws.{word_read, word_none}
use Rattle.reader.specs.Value.{Whole, value_of}
use Rattle.reader.specs.ValueLaws.{whole_inv, not_whole, value_got}
use Rattle.reader.proofs.RecordSteps.{sized_word, sized_list}
use Rattle.sheet.specs.Module.{Func}
use Rattle.sheet.specs.Decode.{value_type, param_list, arg_of, handler_of, switch_of, inst_of, function_of}
use Rattle.sheet.proofs.SizeLaws.{handler_sized, shapes_alike}
use Rattle.code.specs.Callee.{no_func}
use Rattle.rule_bodies.specs.declared.Body.{Body}
use Rattle.rule_bodies.specs.declared.Front.{Front}
use Rattle.rule_bodies.specs.declared.Back.{Back}
use Rattle.rule_bodies.specs.Bodies.{Placed, Fronts, Backs}

-- ── four parts ──

module _ (ws : List ℕ) (at p₁ p₂ p₃ p₄ : ℕ) {r₁ r₂ r₃ r₄ : Option ℕ} where
  pub fronts : r₁ ≡ step_of (list_of value_type ws (at + 1)) → p₁ ≡ unwrap_or r₁ 0 → r₂ ≡ step_of (param_list ws p₁) → p₂ ≡ unwrap_or r₂ 0 →
      r₃ ≡ step_of (list_of (list_of (many 2 word)) ws p₂) → p₃ ≡ unwrap_or r₃ 0 → r₄ ≡ step_of (list_of value_type ws p₃) → p₄ ≡ unwrap_or r₄ 0 →
      Fronts ws at (record { params = p₁; shapes = p₂; captures = p₃; names = p₄ })
  fronts a b c d e f g h = record {
    params = b ∙ ap (λ s. unwrap_or s 0) a;
    shapes = d ∙ ap (λ s. unwrap_or s 0) c;
    captures = f ∙ ap (λ s. unwrap_or s 0) (shapes_alike ws p₂ e);
    names = h ∙ ap (λ s. unwrap_or s 0) g;
  }

  pub backs : r₁ ≡ step_of (list_of (many 1 word) ws at) → p₁ ≡ unwrap_or r₁ 0 → r₂ ≡ step_of (list_of (many 1 word) ws p₁) → p₂ ≡ unwrap_or r₂ 0 →
      r₃ ≡ step_of (list_of (many 4 word) ws p₂) → p₃ ≡ unwrap_or r₃ 0 → r₄ ≡ step_of (list_of switch_of ws p₃) → p₄ ≡ unwrap_or r₄ 0 →
      Backs ws at (record { type_refs = p₁; handlers = p₂; tables = p₃; code = p₄ })
  backs a b c d e f g h = record {
    type_refs = b ∙ ap (λ s. unwrap_or s 0) (sized_list sized_word ws at a);
    handlers = d ∙ ap (λ s. unwrap_or s 0) (sized_list sized_word ws p₁ c);
    tables = f ∙ ap (λ s. unwrap_or s 0) (sized_list handler_sized ws p₂ e);
    code = h ∙ ap (λ s. unwrap_or s 0) g;
  }

-- ── all ten ──

pub function_within : (b : List ℕ) (n at : ℕ) → Whole (function_of (first_words b n) at) → at < n
function_within b n at h = go (dec_lt at n)
  where
    past : n < at + 1 → function_of (first_words b n) at ≡ broken
    past l = unfold function_of in rw (word_none b n at (omega arith))

    go : Dec (at < n) → at < n
    go (yes l) = l
    go (no l) = absurd (not_whole (past (omega arith)) h)

-- where a part ends, its position known by another name
module _ {A : Type 0} (f : Reader A) (ws : List ℕ) {p p₁ q r : ℕ} {a : A} (e : p₁ ≡ p) (g : f ws p ≡ got a q) where
  lands : r ≡ unwrap_or (step_of (f ws p₁)) 0 → r ≡ q
  unfolding step_of
  lands h = h ∙ ap (λ x. unwrap_or (step_of x) 0) (ap (f ws) e ∙ g)

  stands : r ≡ q → f ws p₁ ≡ got a r
  stands h = ap (f ws) e ∙ g ∙ ap (got a) (sym h)

-- a body of two halves, the signature before them
abbrev pub body_of : ℕ → ℕ → Front → Back → Body
body_of s at x y = record {
  sig = record { 0 = s };
  regs = at + 1;
  params = x.params;
  shapes = x.shapes;
  captures = x.captures;
  names = x.names;
  type_refs = y.type_refs;
  handlers = y.handlers;
  tables = y.tables;
  code = y.code;
}

module _ (b : List ℕ) (n at : ℕ) {x : Front} {y : Back} {s : ℕ} where
  pub placed_body : Whole (function_of (first_words b n) at) → Fronts (first_words b n) at x → Backs (first_words b n) x.names y → s ≡ get_or (words b) at 0 →
      Placed (first_words b n) (value_of no_func (function_of (first_words b n) at))
      (body_of s at x y)
  unfolding function_of
  placed_body h u v w =
      whole_inv (function_of (first_words b n) at) h λ f q e.
      then_inv (word (first_words b n) at) _ e λ sig p₀ e₀ d.
      then_inv (list_of value_type (first_words b n) p₀) _ d λ rs p₁ e₁ d.
      then_inv (param_list (first_words b n) p₁) _ d λ ps p₂ e₂ d.
      then_inv (list_of (list_of arg_of) (first_words b n) p₂) _ d λ ss p₃ e₃ d.
      then_inv (list_of value_type (first_words b n) p₃) _ d λ cs p₄ e₄ d.
      then_inv (list_of word (first_words b n) p₄) _ d λ ns p₅ e₅ d.
      then_inv (list_of word (first_words b n) p₅) _ d λ ts p₆ e₆ d.
      then_inv (list_of handler_of (first_words b n) p₆) _ d λ hs p₇ e₇ d.
      then_inv (list_of switch_of (first_words b n) p₇) _ d λ tables p₈ e₈ d.
      then_inv (list_of inst_of (first_words b n) p₈) _ d λ is p₉ e₉ d.
      let ws = first_words b n in
      let z : record { sig = sig; regs = rs; params = ps; shapes = ss; captures = cs; names = ns; type_refs = ts; handlers = hs; tables = tables; code = is } ≡ f = cc in
      let k : got s (at + 1) ≡ got sig p₀ = sym (word_read b n at (function_within b n at h) w) ∙ e₀ in
      let k₀ : at + 1 ≡ p₀ = cc in
      let kₛ : s ≡ sig = cc in
      let k₁ : x.params ≡ p₁ = lands (list_of value_type) ws k₀ e₁ u.params in
      let k₂ : x.shapes ≡ p₂ = lands param_list ws k₁ e₂ u.shapes in
      let k₃ : x.captures ≡ p₃ = lands (list_of (list_of arg_of)) ws k₂ e₃ u.captures in
      let k₄ : x.names ≡ p₄ = lands (list_of value_type) ws k₃ e₄ u.names in
      let k₅ : y.type_refs ≡ p₅ = lands (list_of word) ws k₄ e₅ v.type_refs in
      let k₆ : y.handlers ≡ p₆ = lands (list_of word) ws k₅ e₆ v.handlers in
      let k₇ : y.tables ≡ p₇ = lands (list_of handler_of) ws k₆ e₇ v.tables in
      let k₈ : y.code ≡ p₈ = lands (list_of switch_of) ws k₇ e₈ v.code in
      subst (λ (g : Func). Placed ws g (body_of s at x y)) (z ∙ sym (value_got no_func e))
      (record {
        sig = kₛ;
        regs = stands (list_of value_type) ws k₀ e₁ k₁;
        params = stands param_list ws k₁ e₂ k₂;
        shapes = stands (list_of (list_of arg_of)) ws k₂ e₃ k₃;
        captures = stands (list_of value_type) ws k₃ e₄ k₄;
        names = stands (list_of word) ws k₄ e₅ k₅;
        type_refs = stands (list_of word) ws k₅ e₆ k₆;
        handlers = stands (list_of handler_of) ws k₆ e₇ k₇;
        tables = stands (list_of switch_of) ws k₇ e₈ k₈;
        end = p₉;
        code = stands (list_of inst_of) ws k₈ e₉ refl;
      })
