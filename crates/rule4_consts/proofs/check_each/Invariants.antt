use Rattle.blocks.specs.Frame.{first_words}
use Rattle.rule4_consts.proofs.ByNumber.{Deep}
use Rattle.rule4_consts.proofs.check_each.Given as goal

abbrev pub invariant-loop-i : goal.invariant-loop-i
invariant-loop-i l = Deep l.most (first_words l.sheet l.o.layout.words) l.initial.work l.o l.work l.i
