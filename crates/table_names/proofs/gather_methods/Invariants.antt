use Prim.Native.Nat.{◌*◌}
use mathlib.Core.List.{[]}
use Rattle.blocks.specs.Frame.{first_words}
use Rattle.reader.specs.Reader.{list_of}
use Rattle.reader.specs.Value.{value_of}
use Rattle.open_layout.specs.Opened.{module_in}
use Rattle.sheet.specs.Decode.{method_of}
use Rattle.table_names.specs.Names.{method_pairs}
use Rattle.table_names.proofs.GatherSteps.{Gathers}
use Rattle.table_names.proofs.gather_methods.Given as goal

abbrev pub invariant-loop-i : goal.invariant-loop-i
invariant-loop-i l = Gathers l.initial.work l.work (6 * l.o.layout.words) (method_pairs (module_in (first_words l.sheet l.o.layout.words)) (value_of [] (list_of method_of (first_words l.sheet l.o.layout.words) l.at))) l.i
