-- The renumbered module has a sheet, of as many words, and its bytes decode to it.
use Rattle.std.specs.Prelude.{◌≡◌, refl, Bool, true, ◌&&◌, List, [], ◌∷◌, ℕ, ◌+◌, ◌≤◌, ◌<◌, max, T, leb, Some}
use Rattle.std.proofs.Math.Path.{sym, ap}
use Rattle.std.proofs.Common.{◌∙◌, arith}
use Rattle.std.proofs.Math.Decide.{dec_lt}
use Rattle.std.proofs.Math.ListN.{length}
use Rattle.lists.specs.Lists.{all_of, concat_map, from}
use Rattle.lists.specs.ListLaws.{both, and_first, and_second, all_at, all_from}
use Rattle.lists.specs.AllLaws.{all_concat_map, all_map}
use Rattle.law_counting.specs.Counting.{sum, sum_ext}
use Rattle.law_counting.specs.Sums.{sum_moved, length_by_places}
use Rattle.blocks.specs.Blocks.{most_blocks, is_edition, blocks_for, titled}
use Rattle.blocks.specs.ByteLaws.{is_byte, is_word}
use Rattle.reader.specs.Reader.{encode_list}
use Rattle.reader.specs.Text.{encode_string}
use Rattle.reader.proofs.FrameLaws.{framable}
use Rattle.sheet.specs.Module.{TypeDef, coroutine, Module, type_at}
use Rattle.sheet.specs.Editions.{newest_edition}
use Rattle.sheet.specs.Decode.{decode}
use Rattle.sheet.specs.Encode.{encode_type, encode_const, encode_import, encode_global, encode_func, encode_hook, encode_export, encode, sheet_of}
use Rattle.sheet.specs.Coded.{coded_type, coded_global, coded_func, coded_export, coded_module}
use Rattle.sheet.proofs.SheetLaws.{well_coded, well_framable, decode_coded, decode_sheet}
use Rattle.sheet.specs.DecodedLaws.{most_words}
use Rattle.sheet.proofs.DecodedTheorems.{decoded, decoded_few}
use Rattle.renumber.specs.Renumber.{is_renumbering, image, type_image, import_image, global_image, func_image, export_image, renumber}
use Rattle.law_renumbering.specs.Bijection.{Listed, listed}
use Rattle.law_renumbering.specs.Images.{good_value, good_values, good_type}
use Rattle.law_renumbering.specs.CanonMoved.{Moved, at_origin}
use Rattle.law_renumbering.specs.Setting.{origin_below, moved}
use Rattle.law_renumbering.specs.Words.{Kept, self, word, ◌⊕◌, counted, list_kept, type_kept, import_kept, global_kept, func_kept, export_kept}

-- ── types in another order ──

module _ {types types' : List TypeDef} {π ρ : ℕ → ℕ} (w : Moved types types' π ρ) where
  -- all types pass p, and the image of a type that does passes q
  all_moved : (p q : TypeDef → Bool) → ((d : TypeDef) → p d ≡ true → q (type_image π d) ≡ true)
      → all_of p types ≡ true → all_of q types' ≡ true
  unfolding type_at
  all_moved p q f h = all_from q types' coroutine λ t k.
      ap q (at_origin w t) ∙ f (type_at types (ρ t)) (all_at p types (ρ t) coroutine h (origin_below w t (omega (arith, w.size))))

  length_moved : (f : TypeDef → List ℕ) → ((d : TypeDef) → length (f (type_image π d)) ≡ length (f d)) → length (concat_map f types') ≡ length (concat_map f types)
  unfolding type_at
  length_moved f e =
      let n = length types in
      let b = w.bijection in
      length_by_places f coroutine types'
      ∙ ap (λ k. sum (λ t. length (f (type_at types' t))) (from 0 k)) w.size
      ∙ sym (sum_moved π ρ b.back b.forth n b.below (origin_below w) (λ t. length (f (type_at types' t))))
      ∙ sum_ext (λ t. length (f (type_at types' (π t)))) (λ t. length (f (type_at types t))) (λ t. ap (λ d. length (f d)) (w.at t) ∙ e (type_at types t)) (from 0 n)
      ∙ sym (length_by_places f coroutine types)

  near : (t : ℕ) → π t ≤ max t (length types)
  near t = go (dec_lt t (length types))
    where
      go : Dec (t < length types) → π t ≤ max t (length types)
      go (yes h) = omega (arith, w.bijection.below t h)
      go (no h) = omega (arith, w.bijection.above t (omega arith))

  types_kept : Kept (length types) (encode_list encode_type types) (encode_list encode_type types')
  types_kept = counted types types' w.size ⊕ record {
    size = length_moved encode_type (λ d. (part d).size);
    words = λ few h.
        all_concat_map is_word encode_type types' ∙ all_moved wordy wordy (λ d. (part d).words few) (sym (all_concat_map is_word encode_type types) ∙ h);
  }
    where
      part : (d : TypeDef) → Kept (length types) (encode_type d) (encode_type (type_image π d))
      part = type_kept (length types) π near

      wordy : TypeDef → Bool
      wordy d = all_of is_word (encode_type d)

-- ── the module ──

module _ (r : List ℕ) (m : Module) (l : Listed (length m.types) r) where
  module_kept : Kept (length m.types) (encode m) (encode (renumber r m))
  unfolding encode renumber
  module_kept =
      let n = length m.types in
      let π = image r in
      let g = near (moved r m l) in
      self (encode_list encode_string m.strings)
      ⊕ types_kept (moved r m l)
      ⊕ self (encode_list encode_const m.consts)
      ⊕ list_kept encode_import (import_image π) (import_kept n π g) m.imports
      ⊕ list_kept encode_global (global_image π) (global_kept n π g) m.globals
      ⊕ list_kept encode_func (func_image π) (func_kept n π g) m.funcs
      ⊕ self (encode_list encode_hook m.hooks)
      ⊕ (self (m.start+ ∷ []) ⊕ list_kept encode_export (export_image π) (export_kept n π g) m.exports)

  codes_kept : all_of coded_type m.types ≡ true → coded_module (renumber r m) ≡ coded_module m
  unfolding coded_module renumber coded_global coded_func coded_export global_image func_image export_image
  codes_kept h =
      let π = image r in
      rw (
        all_moved (moved r m l) coded_type coded_type (λ d k. good_type π d ∙ k) h ∙ sym h,
        all_map coded_global coded_global (global_image π) (λ g. good_value π g.type) m.globals,
        all_map coded_func coded_func (func_image π) (λ f. rw (good_values π f.regs, good_values π f.captures)) m.funcs,
        all_map coded_export coded_export (export_image π) (λ e. refl) m.exports,
      )

framable_kept : (newest e n : ℕ) (xs ys : List ℕ) → n ≤ most_words → Kept n xs ys → framable newest e xs ≡ true → framable newest e ys ≡ true
unfolding framable titled
framable_kept newest e n xs ys few k h =
    let t : Kept n (titled e xs) (titled e ys) =
    self (e ∷ []) ⊕ word (length xs + 2) (length ys + 2) (λ few h. omega (arith, k.size)) ⊕ k in
    let x = is_edition newest e in
    let a = all_of is_word (titled e xs) in
    let b = leb (blocks_for (length (titled e xs))) most_blocks in
    let g = and_first (x && a) b h in
    both (both (and_first x a g) (t.words few (and_second x a g))) (ap (λ i. leb (blocks_for i) most_blocks) t.size
    ∙ and_second (x && a) b h)

-- of the same edition
edition_kept : (r : List ℕ) (m : Module) → framable newest_edition m.edition (encode (renumber r m)) ≡ true →
    framable newest_edition (renumber r m).edition (encode (renumber r m)) ≡ true
unfolding renumber
edition_kept r m h = h

-- the second sheet has as many words as the first
pub renumbered_size : (r : List ℕ) (m : Module) → T (is_renumbering (length m.types) r) → length (encode (renumber r m)) ≡ length (encode m)
renumbered_size r m h = (module_kept r m (listed (length m.types) r h)).size

pub renumbered_coded : (r : List ℕ) (m : Module) → T (is_renumbering (length m.types) r) → well_coded m ≡ true → well_coded (renumber r m) ≡ true
unfolding well_coded
renumbered_coded r m h c =
    let l = listed (length m.types) r h in
    let s = sheet_of m in
    let d : decode s ≡ Some m = decode_sheet m c in
    both
    (codes_kept r m l (decoded s m d).types ∙ and_first (coded_module m) (framable newest_edition m.edition (encode m)) c)
    (edition_kept r m (framable_kept newest_edition m.edition (length m.types) (encode m) (encode (renumber r m))
    (decoded_few s m d) (module_kept r m l) (well_framable m c)))

-- the bytes of the second sheet decode to the renumbered module
pub renumbered_decodes : (r s : List ℕ) (m : Module) → all_of is_byte s ≡ true → decode s ≡ Some m → T (is_renumbering (length m.types) r) →
    decode (sheet_of (renumber r m)) ≡ Some (renumber r m)
renumbered_decodes r s m b d h = decode_sheet (renumber r m) (renumbered_coded r m h (decode_coded s m b d))
