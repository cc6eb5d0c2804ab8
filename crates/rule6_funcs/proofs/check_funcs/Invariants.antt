use Rattle.blocks.specs.Frame.{first_words}
use Rattle.rule6_funcs.proofs.FuncSteps.{Recorded}
use Rattle.rule6_funcs.proofs.check_funcs.Given as goal

abbrev pub invariant-loop-f : goal.invariant-loop-f
invariant-loop-f l = Recorded (first_words l.sheet l.o.layout.words) l.initial.work l.work l.o l.f
