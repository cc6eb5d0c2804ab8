use Rattle.std.specs.Prelude.{◌+◌, ◌-◌, ◌*◌}
use Rattle.blocks.specs.Frame.{first_words}
use Rattle.rule7_code.proofs.MarkSteps.{Marks}
use Rattle.rule7_code.proofs.mark_handlers.Given as goal

abbrev pub invariant-loop-i : goal.invariant-loop-i
invariant-loop-i l = Marks (first_words l.sheet l.o.layout.words) l.initial.work l.work l.o l.c (l.c.handlers - l.i) (l.c.body.handlers + 1 + 4 * l.i)
