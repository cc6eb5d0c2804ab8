use Rattle.blocks.specs.Frame.{first_words}
use Rattle.table_funcs.proofs.SectionSteps.{Recorded}
use Rattle.table_funcs.proofs.write_funcs.Given as goal

abbrev pub invariant-loop-f : goal.invariant-loop-f
invariant-loop-f l = Recorded (first_words l.sheet l.o.layout.words) l.initial.work l.work l.o l.initial.table l.initial.p l.f l.table l.p
