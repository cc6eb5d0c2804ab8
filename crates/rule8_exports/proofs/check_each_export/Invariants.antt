use Rattle.blocks.specs.Frame.{first_words}
use Rattle.rule8_exports.proofs.LoopSteps.{Checked}
use Rattle.rule8_exports.proofs.check_each_export.Given as goal

abbrev pub invariant-loop-i : goal.invariant-loop-i
invariant-loop-i l = Checked (first_words l.sheet l.o.layout.words) l.initial.work l.work l.o l.i
