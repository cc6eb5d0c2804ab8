use Rattle.blocks.specs.Frame.{first_words}
use Rattle.rule3_parents.proofs.LaidSteps.{Laying}
use Rattle.rule3_parents.proofs.lay_parents.Given as goal

abbrev pub invariant-loop-t : goal.invariant-loop-t
invariant-loop-t l = Laying (first_words l.sheet l.o.layout.words) l.initial.work l.o l.work l.t
