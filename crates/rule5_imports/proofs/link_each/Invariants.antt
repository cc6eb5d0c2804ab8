use Rattle.blocks.specs.Frame.{first_words}
use Rattle.host.specs.Listed.{hosts_in}
use Rattle.rule5_imports.proofs.ByNumber.{Linking}
use Rattle.rule5_imports.proofs.link_each.Given as goal

abbrev pub invariant-loop-i : goal.invariant-loop-i
invariant-loop-i l = Linking (hosts_in (first_words l.hosts l.n)) (first_words l.sheet l.o.layout.words) l.initial.work l.o l.work l.i
