-- The words of an import, by its number.
use Prim.Native.Nat.{ℕ, ◌+◌, ◌<◌}
use mathlib.Core.Path.{◌≡◌, sym, ap, ◌∙◌}
use mathlib.Core.List.{List}
use Rattle.std.specs.Prelude.{None}
use native.Mathlib.Omega.{arith}
use lib.ListN.{get_or}
use Rattle.blocks.specs.Blocks.{words}
use Rattle.blocks.specs.Frame.{first_words}
use Rattle.reader.specs.Reader.{got, word}
use Rattle.reader.specs.ReaderLaws.{then_inv, word_codes}
use Rattle.reader.specs.Value.{Whole, value_of}
use Rattle.reader.specs.ValueLaws.{got_whole, value_got}
use Rattle.sheet.specs.Module.{ParamList, Import}
use Rattle.sheet.specs.Decode.{param_list, import_of}
use Rattle.sheet.specs.Encode.{encode_import}
use Rattle.code.specs.Callee.{no_import, import_at}
use Rattle.open_layout.specs.Opened.{module_in}
use Rattle.open_sheet.specs.declared.Opened.{Opened}
use Rattle.open_sheet.specs.Ready.{Ready, pos_at}
use Rattle.open_sheet.specs.MemberLaws.{import_stands, import_word, import_sig}

-- the parameter list stands after three words
module _ (ws : List ℕ) (p : ℕ) {a : Import} {q : ℕ} (e : import_of ws p ≡ got a q) where
  list_read : {C : Type 0} → ((r : ℕ) → param_list ws (p + 3) ≡ got a.params r → C) → C
  unfolding import_of
  list_read f =
      then_inv (word ws p) _ e λ m p₁ e₁ k₁. then_inv (word ws p₁) _ k₁ λ n p₂ e₂ k₂.
      then_inv (word ws p₂) _ k₂ λ s p₃ e₃ k₃. then_inv (param_list ws p₃) _ k₃ λ ps r e₄ k₄.
      let z : p₃ ≡ p + 3 = omega (arith, after p m p₁ e₁, after p₁ n p₂ e₂, after p₂ s p₃ e₃) in
      let y : ps ≡ a.params = same k₄ in
      f r (ap (param_list ws) (sym z) ∙ e₄ ∙ ap (λ l. got l r) y)
    where
      after : (p m p₁ : ℕ) → word ws p ≡ got m p₁ → p₁ ≡ p + 1
      after p m p₁ e = ((word_codes ws).found p m p₁ e).stands.end

      same : {m n s : ℕ} {ps : ParamList} {r : ℕ} → got (record { module_name = m; name = n; sig = s; params = ps }) r ≡ got a q → ps ≡ a.params
      same {m} {n} {s} {ps} {r} e = let z : record { module_name = m; name = n; sig = s; params = ps } ≡ a = cc in ap (λ (i : Import). i.params) z

module _ (b w : List ℕ) (o : Opened) (x : Ready (first_words b o.layout.words) w o) (i : ℕ) (h : i < o.counts.imports) where
  abbrev ws : List ℕ
  ws = first_words b o.layout.words

  module _ {p : ℕ} (e : p ≡ pos_at w o.index.imports i) where
    stood : import_of ws p ≡ got (import_at (module_in ws) i) (pos_at w o.index.imports (i + 1))
    unfolding import_at
    stood = import_stands b w o x i h e no_import

    pub import_first : {s : ℕ} → s ≡ get_or (words b) p 0 → s ≡ (import_at (module_in ws) i).module_name
    unfolding import_at encode_import
    import_first k = let z : p ≡ p + 0 = omega arith in import_word b w o x i h e no_import 0 (omega arith) (k ∙ ap (λ j. get_or (words b) j 0) z)

    pub import_second : {s : ℕ} → s ≡ get_or (words b) (p + 1) 0 → s ≡ (import_at (module_in ws) i).name
    unfolding import_at encode_import
    import_second = import_word b w o x i h e no_import 1 (omega arith)

    pub import_third : {s : ℕ} → s ≡ get_or (words b) (p + 2) 0 → s ≡ (import_at (module_in ws) i).sig
    unfolding import_at
    import_third = import_sig b w o x i h e no_import

    pub import_list : Whole (param_list ws (p + 3))
    import_list = list_read ws p stood λ r g. got_whole g

    pub import_listed : value_of None (param_list ws (p + 3)) ≡ (import_at (module_in ws) i).params
    import_listed = list_read ws p stood λ r g. value_got None g
