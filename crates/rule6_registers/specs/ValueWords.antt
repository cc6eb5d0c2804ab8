-- A value type that was read, and its word.
use Rattle.std.specs.Prelude.{ℕ, ◌+◌, ◌<◌, ◌≡◌, List}
use Rattle.std.proofs.Math.Path.{sym, ap}
use Rattle.std.proofs.Common.{◌∙◌}
use native.Mathlib.Omega.{arith}
use Rattle.std.proofs.Math.ListN.{get_or}
use Rattle.blocks.specs.Blocks.{words}
use Rattle.blocks.specs.Frame.{first_words}
use Rattle.blocks.proofs.FirstWords.{length_first_words, first_words_at}
use Rattle.reader.specs.Reader.{got}
use Rattle.reader.specs.ReaderLaws.{stands_in}
use Rattle.reader.proofs.ReadLaws.{read_at}
use Rattle.sheet.specs.Module.{ValueType, value_word}
use Rattle.sheet.specs.Decode.{value_type}
use Rattle.sheet.specs.Encode.{encode_value}
use Rattle.sheet.specs.Coded.{coded_value}
use Rattle.sheet.proofs.TypeCodes.{value_codes}

module _ (b : List ℕ) (n at : ℕ) {v : ValueType} {q : ℕ} (e : value_type (first_words b n) at ≡ got v q) where
  pub value_within : at < n
  unfolding encode_value
  value_within =
      let s = ((value_codes (first_words b n)).found at v q e).stands in
      omega (arith, stands_in (first_words b n) s, s.end, length_first_words b n)

  pub value_word_lem : get_or (words b) at 0 ≡ value_word v
  unfolding encode_value
  value_word_lem =
      let z : at ≡ at + 0 = omega arith in
      sym (first_words_at b n at value_within) ∙ ap (λ k. get_or (first_words b n) k 0) z
      ∙ read_at (first_words b n) value_type encode_value coded_value (value_codes (first_words b n)) at v q e 0 (omega arith)
