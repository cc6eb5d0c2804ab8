use Prim.Native.Nat.{◌-◌}
use Rattle.blocks.specs.Frame.{first_words}
use Rattle.open_layout.specs.Opened.{module_in}
use Rattle.table_hooks.proofs.BindSteps.{Binds}
use Rattle.table_hooks.proofs.put_bindings.Given as goal

abbrev pub invariant-loop : goal.invariant-loop
invariant-loop l = Binds l.sheet l.o.layout.words (module_in (first_words l.sheet l.o.layout.words)).hooks l.initial.table l.first (l.end - l.counter) l.p l.table
