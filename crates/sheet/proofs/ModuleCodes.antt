-- Each reader of a sheet with its encoder: hooks, exports, the nine parts, the module.
use Rattle.std.specs.Prelude.{ℕ, ◌≡◌, true, ◌&&◌, ltb}
use Rattle.std.proofs.Math.Path.{refl, ap}
use Rattle.std.proofs.Common.{◌∙◌}
use mathlib.Core.List.{List, append_assoc}
use Rattle.std.proofs.Math.Dec.{eqb}
use borrow.Author.Tests.{eqb-true, eq-eqb}
use Rattle.lists.specs.Lists.{all_of}
use Rattle.lists.specs.ListLaws.{both, and_first, and_second}
use Rattle.blocks.specs.Blocks.{edition_word}
use Rattle.blocks.specs.ByteLaws.{is_word}
use Rattle.utf8.specs.Utf8.{well_formed}
use Rattle.reader.specs.Text.{string, encode_string}
use Rattle.reader.specs.TextLaws.{string_codes}
use Rattle.reader.specs.Reader.{got, stated, list_of, encode_list}
use Rattle.reader.specs.ReaderLaws.{join, Codes, free, seq, next, landed, final, word_codes, code_codes, list_codes, free_codes}
use Rattle.sheet.specs.Decode.{hook_count, type_def, const_of, import_of, global_of, function_of, hook_of, export_of, module_of}
use Rattle.sheet.specs.Encode.{encode_type, encode_const, encode_import, encode_global, encode_func, encode_hook, encode_export, encode}
use Rattle.sheet.specs.Coded.{coded_type, coded_global, coded_func, coded_hook, coded_export, coded_module}
use Rattle.sheet.proofs.TypeCodes.{type_codes, const_codes}
use Rattle.sheet.proofs.FuncCodes.{import_codes, global_codes, function_codes}

module _ (ws : List ℕ) where
  -- ── hooks and exports ──

  pub hook_codes : Codes ws hook_of encode_hook coded_hook
  unfolding hook_of encode_hook coded_hook
  hook_codes =
      record {
        found = λ p a q e.
            seq ws (code_codes ws hook_count) p _ e λ h p₁ s₁ o₁ e.
            seq ws (code_codes ws 2) p₁ _ e λ k p₂ s₂ o₂ e.
            seq ws (word_codes ws) p₂ _ e λ i p₃ s₃ o₃ e.
            landed e (join ws s₁ (join ws s₂ s₃)) (both o₁ o₂);
        reads = λ p a q w.
            next ws (code_codes ws hook_count) a.hook _ _ (and_first (ltb a.hook hook_count) (ltb a.kind 2) w.fine) w.stands λ p₁ s.
            next ws (code_codes ws 2) a.kind _ _ (and_second (ltb a.hook hook_count) (ltb a.kind 2) w.fine) s λ p₂ s.
            final ws (word_codes ws) a.index _ refl s;
      }

  pub export_codes : Codes ws export_of encode_export coded_export
  unfolding export_of encode_export coded_export
  export_codes =
      record {
        found = λ p a q e.
            seq ws (code_codes ws 3) p _ e λ k p₁ s₁ o₁ e.
            seq ws (word_codes ws) p₁ _ e λ n p₂ s₂ o₂ e.
            seq ws (word_codes ws) p₂ _ e λ i p₃ s₃ o₃ e.
            landed e (join ws s₁ (join ws s₂ s₃)) o₁;
        reads = λ p a q w.
            next ws (code_codes ws 3) a.kind _ _ w.fine w.stands λ p₁ s.
            next ws (word_codes ws) a.name _ _ refl s λ p₂ s.
            final ws (word_codes ws) a.index _ refl s;
      }

  -- ── the sections ──

  pub types_codes : Codes ws (list_of type_def) (encode_list encode_type) (all_of coded_type)
  types_codes = list_codes ws type_def encode_type coded_type (type_codes ws)

  pub consts_codes : Codes ws (list_of const_of) (encode_list encode_const) free
  consts_codes = free_codes ws const_of encode_const (const_codes ws)

  pub imports_codes : Codes ws (list_of import_of) (encode_list encode_import) free
  imports_codes = free_codes ws import_of encode_import (import_codes ws)

  pub globals_codes : Codes ws (list_of global_of) (encode_list encode_global) (all_of coded_global)
  globals_codes = list_codes ws global_of encode_global coded_global (global_codes ws)

  pub functions_codes : Codes ws (list_of function_of) (encode_list encode_func) (all_of coded_func)
  functions_codes = list_codes ws function_of encode_func coded_func (function_codes ws)

  pub hooks_codes : Codes ws (list_of hook_of) (encode_list encode_hook) (all_of coded_hook)
  hooks_codes = list_codes ws hook_of encode_hook coded_hook hook_codes

  pub exports_codes : Codes ws (list_of export_of) (encode_list encode_export) (all_of coded_export)
  exports_codes = list_codes ws export_of encode_export coded_export export_codes

-- ── the module ──

module _ (ws : List ℕ) (words : all_of is_word ws ≡ true) where
  pub strings_codes : Codes ws (list_of string) (encode_list encode_string) (all_of well_formed)
  strings_codes = list_codes ws string encode_string well_formed (string_codes ws words)

  -- the edition is what the words state
  pub module_codes : Codes ws module_of encode (λ m. eqb (edition_word ws) m.edition && coded_module m)
  unfolding module_of encode coded_module stated
  module_codes =
      record {
        found = λ p a q e.
            seq ws strings_codes p _ e λ ss p₁ s₁ o₁ e.
            seq ws (types_codes ws) p₁ _ e λ ts p₂ s₂ o₂ e.
            seq ws (consts_codes ws) p₂ _ e λ cs p₃ s₃ o₃ e.
            seq ws (imports_codes ws) p₃ _ e λ is p₄ s₄ o₄ e.
            seq ws (globals_codes ws) p₄ _ e λ gs p₅ s₅ o₅ e.
            seq ws (functions_codes ws) p₅ _ e λ fs p₆ s₆ o₆ e.
            seq ws (hooks_codes ws) p₆ _ e λ hs p₇ s₇ o₇ e.
            seq ws (word_codes ws) p₇ _ e λ st p₈ s₈ o₈ e.
            seq ws (exports_codes ws) p₈ _ e λ es p₉ s₉ o₉ e.
            landed e
            (join ws (join ws (join ws (join ws (join ws (join ws (join ws s₁ s₂) s₃) s₄) s₅) s₆) s₇) (join ws s₈ s₉))
            (both (eq-eqb (edition_word ws) (edition_word ws) refl) (both (both (both (both (both o₁ o₂) o₅) o₆) o₇) o₉));
        reads = λ p a q w.
            let b₁ = all_of well_formed a.strings in
            let b₂ = all_of coded_type a.types in
            let b₃ = all_of coded_global a.globals in
            let b₄ = all_of coded_func a.funcs in
            let b₅ = all_of coded_hook a.hooks in
            let b₆ = all_of coded_export a.exports in
            let b = eqb (edition_word ws) a.edition in
            let fine = and_second b (b₁ && b₂ && b₃ && b₄ && b₅ && b₆) w.fine in
            let is_edition_lem : edition_word ws ≡ a.edition = eqb-true (edition_word ws) a.edition (and_first b (b₁ && b₂ && b₃ && b₄
            && b₅ && b₆) w.fine) in
            let o₅ = and_first (b₁ && b₂ && b₃ && b₄ && b₅) b₆ fine in
            let o₄ = and_first (b₁ && b₂ && b₃ && b₄) b₅ o₅ in
            let o₃ = and_first (b₁ && b₂ && b₃) b₄ o₄ in
            let o₂ = and_first (b₁ && b₂) b₃ o₃ in
            (next ws strings_codes a.strings _ _ (and_first b₁ b₂ o₂) (simp append_assoc at w.stands) λ p₁ s.
            next ws (types_codes ws) a.types _ _ (and_second b₁ b₂ o₂) s λ p₂ s.
            next ws (consts_codes ws) a.consts _ _ refl s λ p₃ s.
            next ws (imports_codes ws) a.imports _ _ refl s λ p₄ s.
            next ws (globals_codes ws) a.globals _ _ (and_second (b₁ && b₂) b₃ o₃) s λ p₅ s.
            next ws (functions_codes ws) a.funcs _ _ (and_second (b₁ && b₂ && b₃) b₄ o₄) s λ p₆ s.
            next ws (hooks_codes ws) a.hooks _ _ (and_second (b₁ && b₂ && b₃ && b₄) b₅ o₅) s λ p₇ s.
            next ws (word_codes ws) a.start+ _ _ refl s λ p₈ s.
            final ws (exports_codes ws) a.exports _ (and_second (b₁ && b₂ && b₃ && b₄ && b₅) b₆ fine) s)
            ∙ ap (λ e. got (record {
              edition = e;
              strings = a.strings;
              types = a.types;
              consts = a.consts;
              imports = a.imports;
              globals = a.globals;
              funcs = a.funcs;
              hooks = a.hooks;
              start+ = a.start+;
              exports = a.exports;
            }) q) is_edition_lem;
      }
