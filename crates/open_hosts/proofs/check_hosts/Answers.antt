use Rattle.blocks.proofs.FirstWords.{frame_few}
use Rattle.open_hosts.proofs.ListSteps.{frame_next, frame_stop, broken_sorted}
use borrow.Author.Rules.{rules}
use Rattle.open_hosts.proofs.check_hosts.Goals as goal

pub returns-in_err-n-clause-value : goal.returns-in_err-n-clause-value
returns-in_err-n-clause-value c = search (rules, frame_stop)

pub returns-in_err-n-clause-sorted_if : goal.returns-in_err-n-clause-sorted_if
returns-in_err-n-clause-sorted_if c = search (rules, broken_sorted)

pub check_entries-requires-clause-n_bound : goal.check_entries-requires-clause-n_bound
check_entries-requires-clause-n_bound c = search (rules, frame_few, c.in_ok-n.was {u = tt})

pub returns-clause-value : goal.returns-clause-value
returns-clause-value c = search (rules, frame_next, c.in_ok-n.was {u = tt})
