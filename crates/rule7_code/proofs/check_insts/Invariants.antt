use Rattle.blocks.specs.Frame.{first_words}
use Rattle.rule7_code.proofs.InstSteps.{Sweeps}
use Rattle.rule7_code.proofs.check_insts.Given as goal

abbrev pub invariant-loop-pc : goal.invariant-loop-pc
invariant-loop-pc l = Sweeps (first_words l.sheet l.o.layout.words) l.c l.pc l.reach
