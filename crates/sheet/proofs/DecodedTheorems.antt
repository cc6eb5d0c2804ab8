-- What any list of numbers decodes to, bytes or not: types and functions that have codes, and no more types than words.
use Rattle.std.specs.Prelude.{◌≡◌, refl, List, [], ℕ, ◌+◌, ◌*◌, ◌≤◌, length}
use Rattle.std.proofs.Common.{ap, subst, ◌∙◌, length-take}
use Rattle.std.specs.Prelude.{Some}
use native.Mathlib.Omega.{arith}
use Rattle.lists.specs.Lists.{concat_map}
use Rattle.lists.specs.ListLaws.{concat_map_bound}
use Rattle.blocks.specs.Blocks.{words, edition_word, length_word, framed}
use Rattle.blocks.proofs.FirstWords.{framed_edition}
use Rattle.blocks.proofs.FramedLaws.{framed_intact}
use Rattle.reader.specs.Reader.{got, stated, list_of}
use Rattle.reader.specs.Text.{string}
use Rattle.reader.specs.ReaderLaws.{then_inv, stands_in, seq, word_codes}
use Rattle.reader.proofs.ReadLaws.{content_inv}
use Rattle.sheet.specs.Module.{TypeDef, Module}
use Rattle.sheet.specs.Editions.{newest_edition}
use Rattle.sheet.specs.Decode.{module_of, decode}
use Rattle.sheet.specs.Encode.{encode_type}
use Rattle.sheet.proofs.ModuleCodes.{types_codes, consts_codes, imports_codes, globals_codes, functions_codes, hooks_codes, exports_codes}
use Rattle.sheet.specs.DecodedLaws.{Coded, most_words}

abbrev Read : List ℕ → Module → Type 0
Read ws m = Coded m × (length m.types ≤ length ws) × (m.edition ≡ edition_word ws)

-- a word or more for each type
types_few : (ts : List TypeDef) → length ts ≤ length (concat_map encode_type ts)
types_few ts = omega (arith, concat_map_bound none encode_type 1 1 one ts)
  where
    none : TypeDef → List ℕ
    none d = []

    one : (d : TypeDef) → 0 + 1 ≤ 1 * length (encode_type d)
    one d = unfold encode_type in omega arith

module_read : (ws : List ℕ) (m : Module) (p q : ℕ) → module_of ws p ≡ got m q → Read ws m
unfolding module_of stated
module_read ws m p q e =
    then_inv (list_of string ws p) _ e λ ss p₁ e₁ e.
    seq ws (types_codes ws) p₁ _ e λ ts p₂ s₂ o₂ e.
    seq ws (consts_codes ws) p₂ _ e λ cs p₃ s₃ o₃ e.
    seq ws (imports_codes ws) p₃ _ e λ is p₄ s₄ o₄ e.
    seq ws (globals_codes ws) p₄ _ e λ gs p₅ s₅ o₅ e.
    seq ws (functions_codes ws) p₅ _ e λ fs p₆ s₆ o₆ e.
    seq ws (hooks_codes ws) p₆ _ e λ hs p₇ s₇ o₇ e.
    seq ws (word_codes ws) p₇ _ e λ st p₈ s₈ o₈ e.
    seq ws (exports_codes ws) p₈ _ e λ es p₉ s₉ o₉ e.
    let z : record {
      edition = edition_word ws;
      strings = ss;
      types = ts;
      consts = cs;
      imports = is;
      globals = gs;
      funcs = fs;
      hooks = hs;
      start+ = st;
      exports = es;
    } ≡ m = cc in
    subst (Read ws) z (record { types = o₂; funcs = o₆ }, omega (arith, types_few ts, stands_in ws s₂, s₂.end), refl)

framed_few : (s ws : List ℕ) → framed newest_edition s ≡ Some ws → length ws ≤ most_words
framed_few s ws e =
    let r = framed_intact newest_edition s ws e in
    let i = r.0 in
    omega (arith, ap length r.1, length-take (length_word (words s)) (words s), i.in_block, i.few_blocks)

framed_within : (s ws : List ℕ) → framed newest_edition s ≡ Some ws → length ws ≤ length_word (words s)
framed_within s ws e = omega (arith, ap length (framed_intact newest_edition s ws e).1, length-take (length_word (words s)) (words s))

pub decoded : (s : List ℕ) (m : Module) → decode s ≡ Some m → Coded m
unfolding decode
decoded s m e = content_inv module_of (framed newest_edition s) m e λ ws e₁ e₂. (module_read ws m 2 (length ws) e₂).0

pub decoded_few : (s : List ℕ) (m : Module) → decode s ≡ Some m → length m.types ≤ most_words
unfolding decode
decoded_few s m e = content_inv module_of (framed newest_edition s) m e λ ws e₁ e₂.
    omega (arith, (module_read ws m 2 (length ws) e₂).1, framed_few s ws e₁)

-- no more types than the sheet says it has words
pub decoded_within : (s : List ℕ) (m : Module) → decode s ≡ Some m → length m.types ≤ length_word (words s)
unfolding decode
decoded_within s m e =
    content_inv module_of (framed newest_edition s) m e λ ws e₁ e₂. omega (arith, (module_read ws m 2 (length ws) e₂).1, framed_within s ws e₁)

-- of the edition that word 0 states, 1 or 2
pub decoded_edition : (s : List ℕ) (m : Module) → decode s ≡ Some m →
    (m.edition ≡ edition_word (words s)) × (1 ≤ edition_word (words s)) × (edition_word (words s) ≤ newest_edition)
unfolding decode
decoded_edition s m e =
    content_inv module_of (framed newest_edition s) m e λ ws e₁ e₂.
    let f = framed_edition newest_edition s ws e₁ in
    ((module_read ws m 2 (length ws) e₂).2 ∙ f.0, f.1, f.2)
