use Rattle.blocks.specs.Frame.{first_words}
use Rattle.open_hosts.specs.OrderLaws.{Differ}
use Rattle.open_hosts.proofs.compare.Hosts.is_distinct.Given as goal

abbrev pub invariant-loop-i : goal.invariant-loop-i
invariant-loop-i l = Differ (first_words l.self.bytes.now l.self.n) l.self.index.now l.i
