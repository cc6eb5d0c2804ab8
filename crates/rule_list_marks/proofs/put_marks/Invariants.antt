use Prim.Native.Nat.{◌*◌}
use Rattle.blocks.specs.Blocks.{words}
use Rattle.rule_list_marks.proofs.MarkSteps.{Marking}
use Rattle.rule_list_marks.proofs.put_marks.Given as goal

abbrev pub invariant-loop : goal.invariant-loop
invariant-loop l = Marking l.k l.v (3 * l.o.layout.words) l.o.counts.strings l.o.layout.words
    (words l.sheet) l.initial.work l.count l.from l.work l.counter l.p l.new
