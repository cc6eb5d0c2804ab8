use Rattle.blocks.specs.Frame.{first_words}
use Rattle.rule7_arguments.proofs.ArgumentSteps.{Indexing}
use Rattle.rule7_arguments.proofs.index_fewest.Given as goal

abbrev pub invariant-loop-j : goal.invariant-loop-j
invariant-loop-j l = Indexing (first_words l.sheet l.o.layout.words) l.initial.work l.work l.o l.j
