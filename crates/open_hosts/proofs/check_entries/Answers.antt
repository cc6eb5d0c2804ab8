use mathlib.Core.Path.{refl}
use mathlib.Core.Path.{◌≡◌}
use mathlib.Core.Bool.{false}
use native.Mathlib.Omega.{arith}
use Rattle.blocks.specs.ByteLaws.{all_bytes}
use Rattle.blocks.specs.Frame.{first_words}
use Rattle.reader.specs.Reader.{list_of}
use Rattle.reader.specs.Value.{Whole}
use Rattle.host.specs.Host.{host_fn, pairs_distinct}
use Rattle.host.specs.Listed.{hosts_in}
use Rattle.open_hosts.proofs.ListSteps.{listing, entries_crowded, crowded, roomy, broken_sorted, sorted_where, pairs_once}
use borrow.Author.Rules.{rules}
use Rattle.open_hosts.proofs.check_entries.Goals as goal

pub returns-in_err-end-clause-value : goal.returns-in_err-end-clause-value
returns-in_err-end-clause-value c = search (rules, listing)

pub returns-in_err-end-clause-sorted_if : goal.returns-in_err-end-clause-sorted_if
returns-in_err-end-clause-sorted_if c = search (rules, broken_sorted)

pub returns-then-end-n-clause-value : goal.returns-then-end-n-clause-value
returns-then-end-n-clause-value c = search (rules, listing, c.in_ok-end.was {u = tt})

pub returns-then-end-n-clause-sorted_if : goal.returns-then-end-n-clause-sorted_if
returns-then-end-n-clause-sorted_if c = broken_sorted _ _ refl

pub entry_count-requires : goal.entry_count-requires
entry_count-requires c = search (rules, listing, c.in_ok-end.was {u = tt})

pub returns-then-entry_count-gt-MOST_ENTRIES-clause-value : goal.returns-then-entry_count-gt-MOST_ENTRIES-clause-value
returns-then-entry_count-gt-MOST_ENTRIES-clause-value c =
    let w : Whole (list_of host_fn (first_words c.args.hosts.now c.args.n) 2) = search (rules, listing, c.in_ok-end.was {u = tt}) in
    let d : false ≡ pairs_distinct (hosts_in (first_words c.args.hosts.now c.args.n)) = crowded _ _ _ w
    (all_bytes c.args.hosts.now (λ i. omega (arith, c.type_inv.hosts i))) c.requires.n_bound c.entry_count.ensures
    (omega arith) in
    search (rules, entries_crowded, c.in_ok-end.was {u = tt})

pub returns-then-entry_count-gt-MOST_ENTRIES-clause-sorted_if : goal.returns-then-entry_count-gt-MOST_ENTRIES-clause-sorted_if
returns-then-entry_count-gt-MOST_ENTRIES-clause-sorted_if c = broken_sorted _ _ refl

pub sort_entries-requires-clause-whole : goal.sort_entries-requires-clause-whole
sort_entries-requires-clause-whole c = search (rules, listing, c.in_ok-end.was {u = tt})

pub returns-clause-value : goal.returns-clause-value
returns-clause-value c = search (rules, pairs_once, c.in_ok-end.was {u = tt})

pub returns-clause-sorted_if : goal.returns-clause-sorted_if
returns-clause-sorted_if c = sorted_where _ _ _ c.sort_entries.ensures c.is_distinct.ensures c.then_some.ensures

pub sort_entries-requires-clause-n_in_bounds : goal.sort_entries-requires-clause-n_in_bounds
sort_entries-requires-clause-n_in_bounds c =
    let w : Whole (list_of host_fn (first_words c.args.hosts.now c.args.n) 2) = search (rules, listing, c.in_ok-end.was {u = tt}) in
    roomy _ _ _ _ w c.entry_count.ensures (omega arith) c.requires.roomy
