-- The words of a function and of an import by number, as code reads them.
use Rattle.std.specs.Prelude.{ℕ, ◌+◌, ◌<◌, ◌≡◌, List, get_or}
use Rattle.std.proofs.Common.{ap, ◌∙◌, arith}
use Rattle.std.specs.Prelude.{None}
use Rattle.blocks.specs.Blocks.{words}
use Rattle.blocks.specs.Frame.{first_words}
use Rattle.reader.specs.Reader.{got}
use Rattle.reader.proofs.SizeLaws.{word_within, word_held, first_held}
use Rattle.sheet.specs.Module.{Import, Func}
use Rattle.sheet.specs.Decode.{import_of, function_of}
use Rattle.sheet.specs.Encode.{encode_import, encode_func}
use Rattle.sheet.proofs.FuncCodes.{import_codes, function_codes}
use Rattle.open_layout.specs.Opened.{module_in}
use Rattle.open_sheet.specs.declared.Opened.{Opened}
use Rattle.open_sheet.specs.Ready.{Ready, pos_at}
use Rattle.open_sheet.specs.ReadyLaws.{entry_ends, imports_in, funcs_in}

module _ (b w : List ℕ) (o : Opened) (x : Ready (first_words b o.layout.words) w o) where
  abbrev ws : List ℕ
  ws = first_words b o.layout.words

  module _ (f : ℕ) (h : f < o.counts.funcs) (d : Func) {p : ℕ} (e : p ≡ pos_at w o.index.funcs f) where
    pub func_stands : function_of ws p ≡ got (get_or (module_in ws).funcs f d) (pos_at w o.index.funcs (f + 1))
    func_stands = ap (function_of ws) e ∙ entry_ends function_of ws (module_in ws).funcs w o.index.funcs x.funcs d f (funcs_in ws w o x f h)

    -- the signature is the first word of the record
    pub func_sig : {s : ℕ} → s ≡ get_or (words b) p 0 → s ≡ (get_or (module_in ws).funcs f d).sig
    unfolding encode_func
    func_sig = first_held function_of encode_func _ b o.layout.words (function_codes ws) p (get_or (module_in ws).funcs f d) _ func_stands (omega arith)

  module _ (i : ℕ) (h : i < o.counts.imports) {p : ℕ} (e : p ≡ pos_at w o.index.imports i) where
    pub import_stands : (d : Import) → import_of ws p ≡ got (get_or (module_in ws).imports i d) (pos_at w o.index.imports (i + 1))
    import_stands d = ap (import_of ws) e ∙ entry_ends import_of ws (module_in ws).imports w o.index.imports x.imports d i (imports_in ws w o x i h)

    pub import_within : p + 2 < o.layout.words
    unfolding encode_import
    import_within =
        let d : Import = record { module_name = 0; name = 0; sig = 0; params = None } in
        word_within import_of encode_import _ b o.layout.words (import_codes ws) p (get_or (module_in ws).imports i d) _ (import_stands d) 2 (omega arith)

    -- word k of the record
    pub import_word : (d : Import) (k : ℕ) → k < 3 → {s : ℕ} → s ≡ get_or (words b) (p + k) 0 → s ≡ get_or (encode_import (get_or (module_in ws).imports i d)) k 0
    unfolding encode_import
    import_word d k l = word_held import_of encode_import _ b o.layout.words (import_codes ws) p (get_or (module_in ws).imports i d) _ (import_stands d) k (omega arith)

    -- the signature is the third
    pub import_sig : (d : Import) {s : ℕ} → s ≡ get_or (words b) (p + 2) 0 → s ≡ (get_or (module_in ws).imports i d).sig
    unfolding encode_import
    import_sig d = import_word d 2 (omega arith)
