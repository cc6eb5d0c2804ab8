use Prim.Native.Nat.{◌-◌}
use Rattle.blocks.specs.Frame.{first_words}
use Rattle.host.specs.Listed.{text_at}
use Rattle.open_hosts.specs.OrderLaws.{Halves}
use Rattle.open_hosts.proofs.compare.Hosts.find_place.Given as goal

abbrev pub invariant-loop-lo : goal.invariant-loop-lo
invariant-loop-lo l = Halves (first_words l.self.bytes.now l.self.n) l.self.index.now (text_at (first_words l.sheet l.words) l.«module»)
    (text_at (first_words l.sheet l.words) l.name) l.lo l.hi

abbrev pub decreases-loop-lo : goal.decreases-loop-lo
decreases-loop-lo l = l.hi - l.lo
