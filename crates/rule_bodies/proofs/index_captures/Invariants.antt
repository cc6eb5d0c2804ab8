use Rattle.blocks.specs.Frame.{first_words}
use Rattle.rule_bodies.proofs.CaptureSteps.{Counted}
use Rattle.rule_bodies.proofs.index_captures.Given as goal

abbrev pub invariant-loop-f : goal.invariant-loop-f
invariant-loop-f l = Counted (first_words l.sheet l.o.layout.words) l.initial.work l.work l.o l.f
