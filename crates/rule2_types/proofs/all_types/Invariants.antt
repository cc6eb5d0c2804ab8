use Rattle.blocks.specs.Frame.{first_words}
use Rattle.open_layout.specs.Opened.{module_in}
use Rattle.rule2_types.proofs.KindRules.{Cleared}
use Rattle.rule2_types.proofs.all_types.Given as goal

abbrev pub invariant-loop-i : goal.invariant-loop-i
invariant-loop-i l = Cleared (module_in (first_words l.sheet l.o.layout.words)) l.i
