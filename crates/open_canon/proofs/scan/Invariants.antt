use Rattle.blocks.specs.Frame.{first_words}
use Rattle.open_canon.specs.ScanSteps.{ScanAt}
use Rattle.open_canon.proofs.scan.Given as goal

abbrev pub invariant-loop-p : goal.invariant-loop-p
invariant-loop-p l = ScanAt (first_words l.items.bytes.now l.items.words) l.initial.work l.work l.items.n l.items.edges_at l.from l.c
    l.marked l.p l.head
