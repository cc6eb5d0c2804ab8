use Rattle.open_hosts.proofs.IndexSteps.{Edging}
use Rattle.open_hosts.proofs.order.index_entries.Given as goal

abbrev pub invariant-loop-i : goal.invariant-loop-i
invariant-loop-i l = Edging l.hosts l.n l.initial.index l.count l.index l.i l.p
