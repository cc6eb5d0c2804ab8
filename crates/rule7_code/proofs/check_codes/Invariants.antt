use Rattle.blocks.specs.Frame.{first_words}
use Rattle.rule7_code.proofs.CodeSteps.{Coded}
use Rattle.rule7_code.proofs.check_codes.Given as goal

abbrev pub invariant-loop-f : goal.invariant-loop-f
invariant-loop-f l = Coded (first_words l.sheet l.o.layout.words) l.initial.work l.work l.o l.f
