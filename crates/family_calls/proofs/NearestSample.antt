-- `nearest_right` and `nearest_numbering_free` are about something: what is then answered of the sample's sheet, and of one renumbered.
use Rattle.std.specs.Prelude.{◌≡◌, refl, List, [], ◌∷◌, ℕ, get_or, Ok, None, Some}
use Rattle.std.proofs.Common.{ap, ◌∙◌}
use Rattle.error.specs.Answer.{type_number, numbers}
use Rattle.sheet.specs.Encode.{sheet_of}
use Rattle.host.specs.Host.{hosts_of}
use Rattle.descends.specs.Nearest.{nearest_in}
use Rattle.families.specs.Families.{is_from, common_families, is_deeper, nearest}
use Rattle.load.specs.Load.{load, table_after, work_after}
use Rattle.renumber.specs.Renumber.{image, renumber, RenumberedSheet}
use Rattle.law_everything.specs.Everything.{everything}
use Rattle.calls.specs.Calls.{Loads, Begins}
use Rattle.family_calls.specs.NearestCalls.{NearestAsked, NearestRight, family_image, NearestMoves, NearestNumberingFree}
use Rattle.family_calls.proofs.NearestCallLaws.{nearest_right, nearest_numbering_free}
use Rattle.family_calls.proofs.Sample.{small, sheet, slice, words, left, calling}

-- what the theorem gives
asked : NearestAsked small left
unfolding NearestRight Begins everything
asked = nearest_right sheet (hosts_of []) slice slice words left (work_after sheet (hosts_of []) slice slice) small refl calling left refl

-- 0 and 1 are below 2, 4 is a root of its own, and 3 is no struct
told : (nearest_in left 0 1 ≡ Ok (Some (type_number 2))) × (nearest_in left 0 4 ≡ Ok None) × (nearest_in left 0 3 ≡ Ok None)
unfolding everything nearest common_families is_deeper is_from
told = (
  asked.declared 0 1 (nearest_in left 0 1) (record { answers = refl }),
  asked.declared 0 4 (nearest_in left 0 4) (record { answers = refl }),
  asked.declared 0 3 (nearest_in left 0 3) (record { answers = refl }),
)

-- ── renumbered ──

abbrev pub turn : List ℕ
turn = 1 ∷ 2 ∷ 3 ∷ 0 ∷ 4 ∷ []

abbrev pub turned : List ℕ
turned = sheet_of (renumber turn small)

abbrev pub words_also : ℕ
words_also = get_or (numbers (load turned (hosts_of []) 500 500)) 2 0

abbrev pub left_also : List ℕ
left_also = table_after turned (hosts_of []) slice slice

pub pair : RenumberedSheet turn sheet turned
unfolding everything
pair = record { source = small; bytes = refl; intact = refl; renumbers = tt; written = refl }

pub calling_also : Loads turned (hosts_of []) slice slice (Ok words_also) left_also (work_after turned (hosts_of []) slice slice)
unfolding everything
calling_also = record { answers = refl; leaves = refl; clears = refl }

moved : NearestMoves turn left left_also
unfolding NearestNumberingFree Begins
moved =
    nearest_numbering_free turn (hosts_of []) sheet turned pair
    slice slice words left (work_after sheet (hosts_of []) slice slice) calling
    slice slice words_also left_also (work_after turned (hosts_of []) slice slice) calling_also left left_also refl refl

-- 2 is the nearest family of 0 and 1, and 3, its image, that of 1 and 2, their images
carried : nearest_in left_also 1 2 ≡ Ok (Some (type_number 3))
unfolding NearestMoves family_image image
carried =
    moved 0 1 (nearest_in left 0 1) (nearest_in left_also 1 2) (record { answers = refl }) (record { answers = refl })
    ∙ ap (family_image turn) told.0
