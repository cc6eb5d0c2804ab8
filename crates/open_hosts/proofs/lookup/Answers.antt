use native.Mathlib.Omega.{arith}
use Rattle.open_hosts.specs.Pairs.{place_found, place_missing}
use Rattle.open_hosts.specs.EdgedLaws.{edged_count}
use Rattle.open_hosts.proofs.lookup.Goals as goal

pub returns-then-entry_count-place : goal.returns-then-entry_count-place
returns-then-entry_count-place c = place_missing _ _ _ c.find_place-place.ensures
    (omega (arith, c.entry_count.ensures, c.if-entry_count-place.true, edged_count _ _ c.requires.sorted_hosts.arranged.edges))

pub returns : goal.returns
returns c = place_found _ _ _ c.find_place-place.ensures (omega
    (arith, c.entry_count.ensures, c.if-entry_count-place.false, edged_count _ _ c.requires.sorted_hosts.arranged.edges))
    c.is_scheduler.ensures
