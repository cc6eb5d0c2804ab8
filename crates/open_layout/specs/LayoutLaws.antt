-- The layout is broken exactly where nothing is decoded; else each part stands where it says.
use Rattle.std.specs.Prelude.{ℕ, ◌≡◌, ◌↔◌, List, Bool, true, false, cond, eqb, length}
use Rattle.std.proofs.Math.Path.{refl}
use Rattle.std.proofs.Common.{sym, ap, subst, ◌∙◌, arith}
use Rattle.std.specs.Prelude.{Option, None, Some}
use Rattle.blocks.specs.Blocks.{edition_word, framed}
use Rattle.reader.specs.Reader.{Got, broken, got, word, list_of, stated, whole, content}
use Rattle.reader.specs.Text.{string}
use Rattle.reader.specs.ReaderLaws.{then_inv}
use Rattle.reader.specs.Step.{step_of}
use Rattle.reader.specs.AlikeLaws.{ends_alike, pos_alike}
use Rattle.sheet.specs.Module.{Module}
use Rattle.sheet.specs.Editions.{newest_edition}
use Rattle.sheet.specs.Decode.{type_def, const_of, import_of, global_of, function_of, hook_of, export_of, module_of, decode}
use Rattle.open_layout.specs.declared.Layout.{Layout}
use Rattle.open_layout.specs.Layout.{size, pos_of, layout_of, layout}

-- ── broken alike ──

-- both end at one place, or both are broken
pub layout_module : (ws : List ℕ) (p : ℕ) → step_of (layout_of ws p) ≡ step_of (module_of ws p)
unfolding layout_of pos_of size module_of stated
layout_module ws p =
    pos_alike p (list_of string ws p) _ _ λ ss p₁.
    pos_alike p₁ (list_of type_def ws p₁) _ _ λ ts p₂.
    pos_alike p₂ (list_of const_of ws p₂) _ _ λ cs p₃.
    pos_alike p₃ (list_of import_of ws p₃) _ _ λ is p₄.
    pos_alike p₄ (list_of global_of ws p₄) _ _ λ gs p₅.
    pos_alike p₅ (list_of function_of ws p₅) _ _ λ fs p₆.
    pos_alike p₆ (list_of hook_of ws p₆) _ _ λ hs p₇.
    pos_alike p₇ (word ws p₇) _ _ λ st p₈.
    pos_alike p₈ (list_of export_of ws p₈) _ _ λ es q. ends_alike _ _ q

whole_alike : {A B : Type 0} (n : ℕ) (g : Got A) (h : Got B) → step_of g ≡ step_of h → (whole n g ≡ None) → (whole n h ≡ None)
unfolding whole step_of
whole_alike n g broken e k = refl
whole_alike n broken (got b q) e k = let z : ◌≡◌ {A = ℕ} 0 1 = cc in absurd (omega arith)
whole_alike n (got a p) (got b q) e k = let z : p ≡ q = cc in go a b (eqb p n) (eqb q n) (ap (λ x. eqb x n) z) k
  where
    go : {A B : Type 0} (a : A) (b : B) (x y : Bool) → x ≡ y → cond x (Some a) None ≡ None → cond y (Some b) None ≡ None
    go a b true true e k = let z : ◌≡◌ {A = ℕ} 0 1 = cc in absurd (omega arith)
    go a b true false e k = refl
    go a b false true e k = let z : ◌≡◌ {A = ℕ} 0 1 = cc in absurd (omega arith)
    go a b false false e k = refl

-- THE LAYOUT IS BROKEN EXACTLY WHERE NOTHING IS DECODED
pub layout_broken : (bytes : List ℕ) → (layout bytes ≡ None) ↔ (decode bytes ≡ None)
unfolding layout decode
layout_broken bytes = go (framed newest_edition bytes)
  where
    go : (o : Option (List ℕ)) → (content layout_of o ≡ None) ↔ (content module_of o ≡ None)
    go None = unfold content in (λ e. refl, λ e. refl)
    go (Some ws) =
        unfold content in (
          whole_alike (length ws) (layout_of ws 2) (module_of ws 2) (layout_module ws 2),
          whole_alike (length ws) (module_of ws 2) (layout_of ws 2) (sym (layout_module ws 2)),
        )

-- ── each part where it says ──

-- a list of the module stands between its position and the next part's
pub record Located (ws : List ℕ) (m : Module) (l : Layout) : Type 0 where
  pub edition : m.edition ≡ edition_word ws
  pub words : length ws ≡ l.words
  pub strings : list_of string ws l.strings ≡ got m.strings l.types
  pub types : list_of type_def ws l.types ≡ got m.types l.consts
  pub consts : list_of const_of ws l.consts ≡ got m.consts l.imports
  pub imports : list_of import_of ws l.imports ≡ got m.imports l.globals
  pub globals : list_of global_of ws l.globals ≡ got m.globals l.funcs
  pub funcs : list_of function_of ws l.funcs ≡ got m.funcs l.hooks
  pub hooks : list_of hook_of ws l.hooks ≡ got m.hooks l.start
  pub start : word ws l.start ≡ got m.start+ l.exports
  pub exports : list_of export_of ws l.exports ≡ got m.exports l.words

pub located : (ws : List ℕ) (m : Module) (l : Layout) → module_of ws 2 ≡ got m (length ws) → layout_of ws 2 ≡ got l (length ws) → Located ws m l
unfolding module_of layout_of pos_of size stated
located ws m l e f =
    then_inv (list_of string ws 2) _ e λ ss p₁ e₁ e.
    then_inv (list_of type_def ws p₁) _ e λ ts p₂ e₂ e.
    then_inv (list_of const_of ws p₂) _ e λ cs p₃ e₃ e.
    then_inv (list_of import_of ws p₃) _ e λ is p₄ e₄ e.
    then_inv (list_of global_of ws p₄) _ e λ gs p₅ e₅ e.
    then_inv (list_of function_of ws p₅) _ e λ fs p₆ e₆ e.
    then_inv (list_of hook_of ws p₆) _ e λ hs p₇ e₇ e.
    then_inv (word ws p₇) _ e λ st p₈ e₈ e.
    then_inv (list_of export_of ws p₈) _ e λ es q e₉ e.
    let z : record {
      edition = edition_word ws;
      strings = ss;
      types = ts;
      consts = cs;
      imports = is;
      globals = gs;
      funcs = fs;
      hooks = hs;
      start+ = st;
      exports = es;
    } ≡ m = cc in
    let y : q ≡ length ws = cc in
    let k : record { words = length ws; strings = 2; types = p₁; consts = p₂; imports = p₃; globals = p₄; funcs = p₅; hooks = p₆; start = p₇; exports = p₈ } ≡ l =
    laid (rw (e₁, e₂, e₃, e₄, e₅, e₆, e₇, e₈, e₉) at f) in
    subst (λ (x : Module). Located ws x l) z
    (subst (Located ws (record {
      edition = edition_word ws;
      strings = ss;
      types = ts;
      consts = cs;
      imports = is;
      globals = gs;
      funcs = fs;
      hooks = hs;
      start+ = st;
      exports = es;
    })) k
    (record {
      edition = refl;
      words = refl;
      strings = e₁;
      types = e₂;
      consts = e₃;
      imports = e₄;
      globals = e₅;
      funcs = e₆;
      hooks = e₇;
      start = e₈;
      exports = e₉ ∙ ap (got es) y;
    }))
  where
    laid : {a : Layout} {q : ℕ} → got a q ≡ got l (length ws) → a ≡ l
    laid e = cc
