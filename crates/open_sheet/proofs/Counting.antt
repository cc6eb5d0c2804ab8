-- What the sheet states: its edition in word 0, and how many members a part has, in the word where the layout says.
use Prim.Native.Nat.{ℕ, ◌<◌}
use mathlib.Core.Path.{◌≡◌, sym, ◌∙◌}
use mathlib.Core.List.{List}
use native.Mathlib.Omega.{arith}
use lib.ListN.{get_or}
use Rattle.blocks.specs.Blocks.{words, edition_word}
use Rattle.blocks.specs.Frame.{first_words}
use Rattle.blocks.proofs.FirstWords.{first_words_at}
use Rattle.reader.specs.ReaderLaws.{stands_in, word_codes}
use Rattle.reader.proofs.SizeLaws.{list_count}
use Rattle.open_layout.specs.LayoutLaws.{Located}
use Rattle.open_layout.specs.Opened.{module_in}
use Rattle.open_layout.specs.declared.Layout.{Layout}
use Rattle.open_sheet.specs.Ready.{counts_of}

module _ (b : List ℕ) (l : Layout) (x : Located (first_words b l.words) (module_in (first_words b l.words)) l) where
  abbrev at : ℕ → ℕ
  at p = get_or (words b) p 0

  pub counted : {s t c i g f : ℕ} → s ≡ at l.strings → t ≡ at l.types → c ≡ at l.consts → i ≡ at l.imports → g ≡ at l.globals → f ≡ at l.funcs →
      record { strings = s; types = t; consts = c; imports = i; globals = g; funcs = f } ≡ counts_of (module_in (first_words b l.words))
  unfolding counts_of
  counted es et ec ei eg ef =
      let n = l.words in
      rw (
        list_count _ b n l.strings _ _ x.strings es,
        list_count _ b n l.types _ _ x.types et,
        list_count _ b n l.consts _ _ x.consts ec,
        list_count _ b n l.imports _ _ x.imports ei,
        list_count _ b n l.globals _ _ x.globals eg,
        list_count _ b n l.funcs _ _ x.funcs ef,
      )

  -- there is a word 0, since start has one
  pub stated : {e : ℕ} → e ≡ at 0 → e ≡ (module_in (first_words b l.words)).edition
  unfolding edition_word
  stated k =
      let ws = first_words b l.words in
      let s = ((word_codes ws).found l.start _ l.exports x.start).stands in
      let some : 0 < l.words = omega (arith, stands_in ws s, s.end, x.words) in
      k ∙ sym (first_words_at b l.words 0 some) ∙ sym x.edition
