-- A sheet is the sheet of the module that it holds.
use Rattle.std.specs.Prelude.{◌≡◌, ℕ, ◌+◌, List, Bool, true, ◌&&◌, length}
use Rattle.std.proofs.Common.{sym, ◌∙◌, add_comm}
use Rattle.std.specs.Prelude.{Some}
use Rattle.lists.specs.Lists.{all_of}
use Rattle.lists.specs.ListLaws.{both, and_first, and_second}
use Rattle.blocks.specs.Blocks.{words, length_word}
use Rattle.blocks.specs.ByteLaws.{is_byte}
use Rattle.blocks.proofs.WrittenLaws.{titled_length}
use Rattle.reader.proofs.FrameLaws.{framable, Frames, content_frames, content_written, framable_length}
use Rattle.sheet.specs.Module.{Module}
use Rattle.sheet.specs.Editions.{newest_edition}
use Rattle.sheet.specs.Decode.{module_of, decode}
use Rattle.sheet.specs.Encode.{encode, sheet_of}
use Rattle.sheet.specs.Coded.{coded_module}
use Rattle.sheet.proofs.ModuleCodes.{module_codes}

-- the module has a sheet: its codes are in range, its edition is 1 or 2, its words below 2^32, its blocks 4,096 or fewer
unfoldable pub well_coded : Module → Bool
well_coded m = coded_module m && framable newest_edition m.edition (encode m)

abbrev title : Module → ℕ
title m = m.edition

pub decode_frames : (s : List ℕ) (m : Module) → all_of is_byte s ≡ true → decode s ≡ Some m →
    Frames newest_edition title encode coded_module s m
unfolding decode
decode_frames s m h e = content_frames newest_edition module_of title encode coded_module (λ ws w k. module_codes ws w) s m h e

pub decode_is_sheet : (s : List ℕ) (m : Module) → all_of is_byte s ≡ true → decode s ≡ Some m → s ≡ sheet_of m
unfolding sheet_of
decode_is_sheet s m h e = (decode_frames s m h e).bytes_are

pub decode_coded : (s : List ℕ) (m : Module) → all_of is_byte s ≡ true → decode s ≡ Some m → well_coded m ≡ true
unfolding well_coded
decode_coded s m h e = let f = decode_frames s m h e in both f.fine f.fits

pub well_framable : (m : Module) → well_coded m ≡ true → framable newest_edition m.edition (encode m) ≡ true
unfolding well_coded
well_framable m h = and_second (coded_module m) (framable newest_edition m.edition (encode m)) h

pub decode_sheet : (m : Module) → well_coded m ≡ true → decode (sheet_of m) ≡ Some m
unfolding decode sheet_of well_coded
decode_sheet m h =
    content_written newest_edition module_of title encode coded_module (λ ws w k. module_codes ws w) m
    (and_first (coded_module m) (framable newest_edition m.edition (encode m)) h) (well_framable m h)

-- no two sheets hold one module
pub decode_injective : (s t : List ℕ) (m : Module) → all_of is_byte s ≡ true → all_of is_byte t ≡ true → decode s ≡ Some m → decode t ≡ Some m → s ≡ t
decode_injective s t m h k d e = decode_is_sheet s m h d ∙ sym (decode_is_sheet t m k e)

-- ── N ──

-- the words of the sheet of a module
abbrev pub sheet_words : Module → ℕ
sheet_words m = 2 + length (encode m)

pub decode_length : (s : List ℕ) (m : Module) → all_of is_byte s ≡ true → decode s ≡ Some m → length_word (words s) ≡ sheet_words m
decode_length s m h e = (decode_frames s m h e).length_is ∙ titled_length m.edition (encode m) ∙ add_comm (length (encode m)) 2

pub sheet_length : (m : Module) → well_coded m ≡ true → length_word (words (sheet_of m)) ≡ sheet_words m
unfolding sheet_of
sheet_length m h =
    framable_length newest_edition m.edition (encode m) (well_framable m h) ∙ titled_length m.edition (encode m)
    ∙ add_comm (length (encode m)) 2
