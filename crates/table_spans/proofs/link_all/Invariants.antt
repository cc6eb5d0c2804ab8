use Prim.Native.Nat.{◌-◌}
use Rattle.blocks.specs.Frame.{first_words}
use Rattle.table_spans.proofs.LinkSteps.{Links}
use Rattle.table_spans.proofs.link_all.Given as goal

abbrev pub invariant-loop-i : goal.invariant-loop-i
invariant-loop-i l = Links (first_words l.sheet l.o.layout.words) l.o l.initial.work l.work (l.n - l.i)
