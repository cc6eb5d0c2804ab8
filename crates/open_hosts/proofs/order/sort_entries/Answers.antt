use Rattle.open_hosts.proofs.IndexSteps.{sort_asks, order_lies, order_copied}
use Rattle.open_hosts.proofs.order.sort_entries.Goals as goal

pub sort-from-requires-clause-ready : goal.sort-from-requires-clause-ready
sort-from-requires-clause-ready c = (sort_asks _ _ _ _ c.entry_count-count.ensures c.index_entries.ensures c.requires.n_bound).0

pub returns-then-from-count : goal.returns-then-from-count
returns-then-from-count c = order_lies _ _ _ _ _ c.entry_count-count.ensures c.index_entries.ensures c.sort-from.ensures
    c.if-from-count.true

pub returns : goal.returns
returns c =
    let k = c.copy_within.ensures.by_index in
    order_copied _ _ _ _ _ c.entry_count-count.ensures c.index_entries.ensures c.sort-from.ensures _ c.copy_within.ensures.len k.0 k.1 k.2
