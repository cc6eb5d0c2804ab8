use Rattle.blocks.specs.Frame.{first_words}
use Rattle.rule_frames.proofs.ShapeSteps.{Measured}
use Rattle.rule_frames.proofs.index_shapes.Given as goal

abbrev pub invariant-loop-k : goal.invariant-loop-k
invariant-loop-k l = Measured (first_words l.sheet l.o.layout.words) l.initial.work l.work l.o l.fn.c l.p l.k
