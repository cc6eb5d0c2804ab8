-- `lengths_right` and the lengths of `numbering_free` are about something: what is answered of the sample's sheet, and of one renumbered.
use Rattle.std.specs.Prelude.{◌≡◌, refl, [], Ok}
use Rattle.std.proofs.Common.{sym, ◌∙◌}
use Rattle.host.specs.Host.{hosts_of}
use Rattle.descends.specs.Lengths.{chain_length_in}
use Rattle.families.specs.Families.{family_depth}
use Rattle.load.specs.Load.{work_after}
use Rattle.renumber.specs.Renumber.{image}
use Rattle.law_everything.specs.Everything.{everything}
use Rattle.calls.specs.Calls.{Begins, AgreeAsked, NumberingFree}
use Rattle.calls.proofs.CallLaws.{numbering_free}
use Rattle.family_calls.proofs.NearestCallLaws.{accepted_long}
use Rattle.family_calls.specs.LengthCalls.{LengthsAsked, LengthsRight}
use Rattle.family_calls.proofs.LengthCallLaws.{lengths_right}
use Rattle.family_calls.proofs.Sample.{small, sheet, slice, words, left, calling}
use Rattle.family_calls.proofs.NearestSample.{turn, turned, words_also, left_also, pair, calling_also}

-- what the theorem gives
asked : LengthsAsked small left
unfolding LengthsRight Begins everything
asked = lengths_right sheet (hosts_of []) slice slice words left (work_after sheet (hosts_of []) slice slice) small refl calling left refl

-- 0 is below 2, which is a root, and 3 is no struct
told : (chain_length_in left 0 ≡ Ok 2) × (chain_length_in left 2 ≡ Ok 1) × (chain_length_in left 3 ≡ Ok 0)
unfolding everything family_depth
told = (
  asked.declared 0 (chain_length_in left 0) (record { answers = refl }),
  asked.at_roots 2 (chain_length_in left 2) (record { answers = refl }) refl,
  asked.others 3 (chain_length_in left 3) (record { answers = refl }) refl,
)

-- ── renumbered ──

agreed : AgreeAsked turn pair.source left left_also
unfolding NumberingFree Begins
agreed =
    let work = work_after sheet (hosts_of []) slice slice in
    let work_also = work_after turned (hosts_of []) slice slice in
    (numbering_free turn (hosts_of []) sheet turned pair
    slice slice (Ok words) left work calling (accepted_long words)
    slice slice (Ok words_also) left_also work_also calling_also (accepted_long words_also)
    ).agree words words_also refl refl left left_also refl refl

-- 1, the image of 0, has its length
carried : chain_length_in left_also 1 ≡ Ok 2
unfolding image
carried =
    sym (agreed.lengths 0 (chain_length_in left 0) (chain_length_in left_also 1) (record { answers = refl }) (record { answers = refl }))
    ∙ told.0
