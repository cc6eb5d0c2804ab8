use Rattle.blocks.specs.Frame.{first_words}
use Rattle.open_layout.specs.Opened.{module_in}
use Rattle.rule6_registers.proofs.FrontSteps.{Fronts}
use Rattle.rule6_registers.proofs.params_first.Given as goal

abbrev pub invariant-loop-i : goal.invariant-loop-i
invariant-loop-i l = Fronts (module_in (first_words l.sheet l.o.layout.words))
    (first_words l.sheet l.o.layout.words) l.params_at l.regs_at l.params l.i
