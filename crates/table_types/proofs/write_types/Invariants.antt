use Prim.Native.Nat.{◌-◌}
use Rattle.blocks.specs.Frame.{first_words}
use Rattle.table_types.proofs.TypeSteps.{Types}
use Rattle.table_types.proofs.write_types.Given as goal

abbrev pub invariant-loop-i : goal.invariant-loop-i
invariant-loop-i l = Types (first_words l.sheet l.o.layout.words) l.initial.work l.o l.initial.table l.initial.p l.i l.work l.table l.p
