-- The theorem over bytes, and the two ways to say that sheets differ by one renumbering.
use Rattle.std.specs.Prelude.{◌≡◌, true, List, ℕ, ◌+◌, length}
use Rattle.std.proofs.Common.{sym, ap, ◌∙◌}
use Rattle.lists.specs.Lists.{all_of}
use Rattle.blocks.specs.Blocks.{words, length_word}
use Rattle.blocks.specs.ByteLaws.{is_byte}
use Rattle.sheet.specs.Decode.{decode}
use Rattle.sheet.proofs.SheetLaws.{decode_is_sheet, decode_coded, decode_length, sheet_length}
use Rattle.load.specs.Load.{long_enough}
use Rattle.renumber.specs.Renumber.{renumber, RenumberedSheet}
use Rattle.law_renumbering.specs.Statement.{Call, LongEnough, has_room, Renumbered, Outcome}
use Rattle.law_renumbering.proofs.Theorem.{renumbered}
use Rattle.law_renumbering.specs.Written.{renumbered_size, renumbered_coded, renumbered_decodes}

module _ {r first second : List ℕ} where
  abbrev pub as_renumbered : RenumberedSheet r first second → Renumbered r first second
  as_renumbered w = record {
    source = w.source;
    renumbering = w.renumbers;
    decodes = w.intact;
    decodes_also = ap decode w.written ∙ renumbered_decodes r first w.source w.bytes w.intact w.renumbers;
  }

  pub as_written : all_of is_byte first ≡ true → all_of is_byte second ≡ true → Renumbered r first second → RenumberedSheet r first second
  as_written b c w = record {
    source = w.source;
    bytes = b;
    intact = w.decodes;
    renumbers = w.renumbering;
    written = decode_is_sheet second (renumber r w.source) c w.decodes_also;
  }

  -- N is the same
  pub words_same : RenumberedSheet r first second → length_word (words second) ≡ length_word (words first)
  words_same w =
      let m = w.source in
      ap (λ s. length_word (words s)) w.written
      ∙ sheet_length (renumber r m) (renumbered_coded r m w.renumbers (decode_coded first m w.bytes w.intact))
      ∙ ap (λ k. 2 + k) (renumbered_size r m w.renumbers)
      ∙ sym (decode_length first m w.bytes w.intact)

module _ (r hosts : List ℕ) (first second : Call) (w : RenumberedSheet r first.sheet second.sheet) where
  -- THE THEOREM OVER BYTES
  pub renumbered_sheets : LongEnough hosts first → LongEnough hosts second → Outcome r hosts w.source first second
  renumbered_sheets long long_also = renumbered r hosts first second (as_renumbered w) long long_also

  -- slices as long as the first call's have room for the second
  pub room_same : length second.table ≡ length first.table → length second.work ≡ length first.work → has_room second ≡ has_room first
  unfolding has_room long_enough
  room_same e f = rw (words_same w, e, f)
