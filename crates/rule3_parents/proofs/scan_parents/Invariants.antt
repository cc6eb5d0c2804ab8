use Rattle.blocks.specs.Frame.{first_words}
use Rattle.open_layout.specs.Opened.{module_in}
use Rattle.rule3_parents.proofs.ScanSteps.{Scans, Compares}
use Rattle.rule3_parents.proofs.scan_parents.Given as goal

abbrev pub invariant-loop-i : goal.invariant-loop-i
invariant-loop-i l =
    Compares l.most (module_in (first_words l.sheet l.o.layout.words)).types l.found l.t l.p l.n l.i

abbrev pub invariant-types : goal.invariant-types
invariant-types l = Scans l.most (module_in (first_words l.sheet l.o.layout.words)).types l.found l.t
