use Prim.Native.Nat.{◌*◌}
use Rattle.blocks.specs.Frame.{first_words}
use Rattle.rule4_nesting.proofs.Children.{Nests}
use Rattle.rule4_nesting.proofs.nest.Given as goal

abbrev pub invariant-loop-i : goal.invariant-loop-i
invariant-loop-i l = Nests l.most l.work (5 * l.o.layout.words) l.c.0 (first_words l.sheet l.o.layout.words) l.at l.count l.i l.depth
