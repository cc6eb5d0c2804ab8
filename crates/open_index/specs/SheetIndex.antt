-- The index of an intact sheet: its lists are whole, there is room for it, and its words are where the members stand.
use Rattle.std.specs.Prelude.{ℕ, ◌+◌, ◌≤◌, refl, true}
use Rattle.std.proofs.Math.Path.{◌≡◌, sym, ap}
use Rattle.std.proofs.Common.{subst, ◌∙◌}
use mathlib.Core.List.{List, ◌++◌}
use Rattle.std.specs.Prelude.{Option, Some}
use native.Mathlib.Omega.{arith}
use Rattle.std.proofs.Math.ListN.{length, length-append}
use Rattle.lists.specs.Lists.{all_of}
use Rattle.blocks.specs.Blocks.{framed}
use Rattle.blocks.specs.ByteLaws.{is_word}
use Rattle.blocks.specs.Frame.{first_words, frame_of}
use Rattle.blocks.proofs.FirstWords.{first_words_framed, frame_few}
use Rattle.utf8.specs.Utf8.{well_formed}
use Rattle.reader.specs.Reader.{got}
use Rattle.reader.specs.Text.{string, encode_string}
use Rattle.reader.specs.TextLaws.{string_codes}
use Rattle.reader.specs.ReaderLaws.{free, word_codes}
use Rattle.reader.proofs.ReadLaws.{content_inv, content_is}
use Rattle.reader.specs.Step.{step_of}
use Rattle.reader.specs.StepLaws.{arrived}
use Rattle.reader.specs.ValueLaws.{value_got}
use Rattle.sheet.specs.Module.{Const, plain, Module, no_module}
use Rattle.sheet.specs.Editions.{newest_edition}
use Rattle.sheet.specs.Decode.{type_def, const_of, import_of, global_of, function_of, hook_of, export_of, module_of, decode}
use Rattle.sheet.specs.Encode.{encode_type, encode_const, encode_import, encode_global, encode_func, encode_hook, encode_export}
use Rattle.sheet.specs.Coded.{coded_type, coded_global, coded_func, coded_hook, coded_export}
use Rattle.sheet.proofs.TypeCodes.{type_codes, const_codes}
use Rattle.sheet.proofs.FuncCodes.{import_codes, global_codes, function_codes}
use Rattle.sheet.proofs.ModuleCodes.{hook_codes, export_codes}
use Rattle.open_layout.specs.Layout.{layout_of, layout}
use Rattle.open_layout.specs.Opened.{module_in}
use Rattle.open_layout.specs.LayoutLaws.{layout_module, Located, located}
use Rattle.open_layout.specs.declared.Layout.{Layout}
use Rattle.open_index.specs.declared.Part.TheVariants.{Strings, Types, Consts, Imports, Funcs}
use Rattle.open_index.specs.Index.{member_of, edges_of, Indexable, index}
use Rattle.open_index.specs.IndexLaws.{Indexed, indexed, list_fit}

pub const_some : (k : Const) → 1 ≤ length (encode_const k)
unfolding encode_const
const_some (plain a b) = omega arith
const_some (Const.string s) = omega arith
const_some (Const.array items) = omega arith
const_some (Const.map entries) = omega arith

-- a sheet with a layout: the module that its words hold, each list where the layout says, and how long it can be
pub record Intact (bytes : List ℕ) (l : Layout) : Type 0 where
  pub holds : decode bytes ≡ Some (module_in (first_words bytes l.words))
  pub located : Located (first_words bytes l.words) (module_in (first_words bytes l.words)) l
  pub few : l.words ≤ 520192

pub intact : (bytes : List ℕ) (l : Layout) → layout bytes ≡ Some l → Intact bytes l
unfolding layout decode
intact bytes l e =
    content_inv layout_of (framed newest_edition bytes) l e λ ws e₁ e₂.
    arrived (module_of ws 2) {r = Some (length ws)} refl (sym (ended ws e₂) ∙ layout_module ws 2) λ m g.
    let x = located ws m l g e₂ in
    let w : ws ≡ first_words bytes l.words = sym (first_words_framed newest_edition bytes ws e₁) ∙ ap (first_words bytes) x.words in
    let k : m ≡ module_in (first_words bytes l.words) = module_is ws m g ∙ ap module_in w in
    record {
      holds = rw (e₁, ← k) (content_is module_of ws m g);
      located = subst (λ (v : List ℕ). Located v (module_in (first_words bytes l.words)) l) w (subst (λ (y : Module). Located ws y l) k x);
      few = omega (
        arith,
        x.words,
        frame_few newest_edition bytes {r = Some (length ws)} {n = length ws} refl (unfold frame_of in
            sym (ap frame_of e₁)),
      );
    }
  where
    ended : (ws : List ℕ) → layout_of ws 2 ≡ got l (length ws) → step_of (layout_of ws 2) ≡ Some (length ws)
    ended ws e = unfold step_of in ap step_of e

    module_is : (ws : List ℕ) (m : Module) → module_of ws 2 ≡ got m (length ws) → m ≡ module_in ws
    module_is ws m g = unfold module_in in sym (value_got no_module g)

-- as code finds it
pub checked_intact : (bytes : List ℕ) (l : Layout) {r : Option Layout} → r ≡ Some l → r ≡ layout bytes → Intact bytes l
checked_intact bytes l e k = intact bytes l (sym k ∙ e)

module _ (ws : List ℕ) (m : Module) (l : Layout) (x : Located ws m l) where
  -- ── where the members stand ──

  pub strings_indexed : Indexed string ws l.strings m.strings (edges_of Strings ws l.strings)
  unfolding edges_of member_of
  strings_indexed = indexed string ws l.strings m.strings l.types x.strings

  pub types_indexed : Indexed type_def ws l.types m.types (edges_of Types ws l.types)
  unfolding edges_of member_of
  types_indexed = indexed type_def ws l.types m.types l.consts x.types

  pub consts_indexed : Indexed const_of ws l.consts m.consts (edges_of Consts ws l.consts)
  unfolding edges_of member_of
  consts_indexed = indexed const_of ws l.consts m.consts l.imports x.consts

  pub imports_indexed : Indexed import_of ws l.imports m.imports (edges_of Imports ws l.imports)
  unfolding edges_of member_of
  imports_indexed = indexed import_of ws l.imports m.imports l.globals x.imports

  pub funcs_indexed : Indexed function_of ws l.funcs m.funcs (edges_of Funcs ws l.funcs)
  unfolding edges_of member_of
  funcs_indexed = indexed function_of ws l.funcs m.funcs l.hooks x.funcs

  pub indexable : Indexable ws l
  unfolding member_of
  indexable = record {
    strings = strings_indexed.whole;
    types = types_indexed.whole;
    consts = consts_indexed.whole;
    imports = imports_indexed.whole;
    funcs = funcs_indexed.whole;
  }

  -- ── room ──

  strings_fit : all_of is_word ws ≡ true → l.strings + 1 + length m.strings ≤ l.types
  strings_fit w =
      list_fit string ws l.strings m.strings l.types encode_string well_formed (string_codes ws w) (λ b. unfold encode_string in omega arith) x.strings

  types_fit : l.types + 1 + length m.types ≤ l.consts
  types_fit = list_fit type_def ws l.types m.types l.consts encode_type coded_type (type_codes ws) (λ d. unfold encode_type in omega arith) x.types

  consts_fit : l.consts + 1 + length m.consts ≤ l.imports
  consts_fit = list_fit const_of ws l.consts m.consts l.imports encode_const free (const_codes ws) const_some x.consts

  imports_fit : l.imports + 1 + length m.imports ≤ l.globals
  imports_fit = list_fit import_of ws l.imports m.imports l.globals encode_import free (import_codes ws) (λ i. unfold encode_import in omega arith) x.imports

  funcs_fit : l.funcs + 1 + length m.funcs ≤ l.hooks
  funcs_fit = list_fit function_of ws l.funcs m.funcs l.hooks encode_func coded_func (function_codes ws) (λ f. unfold encode_func in omega arith) x.funcs

  globals_fit : l.globals + 1 + length m.globals ≤ l.funcs
  globals_fit = list_fit global_of ws l.globals m.globals l.funcs encode_global coded_global (global_codes ws) (λ g. unfold encode_global in omega arith) x.globals

  hooks_fit : l.hooks + 1 + length m.hooks ≤ l.start
  hooks_fit = list_fit hook_of ws l.hooks m.hooks l.start encode_hook coded_hook (hook_codes ws) (λ h. unfold encode_hook in omega arith) x.hooks

  start_fit : l.exports ≡ l.start + 1
  start_fit = ((word_codes ws).found l.start m.start+ l.exports x.start).stands.end

  exports_fit : l.exports + 1 + length m.exports ≤ l.words
  exports_fit = list_fit export_of ws l.exports m.exports l.words encode_export coded_export (export_codes ws) (λ e. unfold encode_export in omega arith) x.exports

  -- a word of work for each word of the sheet is room enough
  pub index_fits : all_of is_word ws ≡ true → length (index ws l) ≤ l.words
  unfolding index
  index_fits w =
      let s₁ = edges_of Strings ws l.strings in
      let s₂ = edges_of Types ws l.types in
      let s₃ = edges_of Consts ws l.consts in
      let s₄ = edges_of Imports ws l.imports in
      let s₅ = edges_of Funcs ws l.funcs in
      let n : length (s₁ ++ s₂ ++ s₃ ++ s₄ ++ s₅) ≡ length s₁ + length s₂ + length s₃ + length s₄ + length s₅ =
      omega (arith, length-append s₁ s₂, length-append (s₁ ++ s₂) s₃, length-append (s₁ ++ s₂ ++ s₃) s₄, length-append (s₁ ++ s₂ ++ s₃ ++ s₄) s₅) in
      omega (
        arith,
        n,
        strings_indexed.count,
        types_indexed.count,
        consts_indexed.count,
        imports_indexed.count,
        funcs_indexed.count,
        strings_fit w,
        types_fit,
        consts_fit,
        imports_fit,
        globals_fit,
        funcs_fit,
        hooks_fit,
        start_fit,
        exports_fit,
      )
