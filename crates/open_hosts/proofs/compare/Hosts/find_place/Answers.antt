use native.Mathlib.Omega.{arith}
use Rattle.open_hosts.specs.RangeOrder.{text_fine}
use Rattle.open_hosts.specs.OrderLaws.{halves_read, halves_none, middle_below, middle_less, middle_greater, middle_equal}
use Rattle.open_hosts.proofs.compare.Hosts.find_place.Goals as goal

pub loop-lo-init : goal.loop-lo-init
loop-lo-init c = halves_read _ _ c.requires.sorted_hosts.arranged _ _ _ c.entry_count-count.ensures

pub compare_entry-requires : goal.compare_entry-requires
compare_entry-requires c =
    record {
      edged = c.requires.sorted_hosts.arranged.edges;
      bound = middle_below _ _ c.requires.sorted_hosts.arranged _ _ _ _ _ _
          c.entry_count-count.ensures c.loop-lo.invariant (omega arith)
          (omega arith) c.at-entry.ensures;
      whole = c.requires.whole;
      whole_2 = c.requires.whole_2;
    }

pub loop-lo-preserved-in-Less : goal.loop-lo-preserved-in-Less
loop-lo-preserved-in-Less c =
    middle_less _ _ c.requires.sorted_hosts.arranged _ _ _ _ _ _ c.entry_count-count.ensures c.loop-lo.invariant (omega arith)
    (omega arith) c.at-entry.ensures c.compare_entry.ensures c.in-Less.is

pub returns-in-Equal : goal.returns-in-Equal
returns-in-Equal c =
    middle_equal _ _ c.requires.sorted_hosts.arranged _ _ _ _ _ _ c.entry_count-count.ensures c.loop-lo.invariant (omega arith)
    (omega arith) c.at-entry.ensures c.compare_entry.ensures (text_fine _ _ c.requires.whole)
    (text_fine _ _ c.requires.whole_2) c.requires.sorted_hosts.distinct c.in-Equal.is

pub loop-lo-preserved : goal.loop-lo-preserved
loop-lo-preserved c =
    middle_greater _ _ c.requires.sorted_hosts.arranged _ _ _ _ _ _ c.entry_count-count.ensures c.loop-lo.invariant (omega arith)
    (omega arith) c.at-entry.ensures c.compare_entry.ensures c.in-Greater.is

pub returns : goal.returns
returns c =
    halves_none _ _ c.requires.sorted_hosts.arranged _ _ _ _ _ c.entry_count-count.ensures c.loop-lo.invariant c.loop-lo-test.false
