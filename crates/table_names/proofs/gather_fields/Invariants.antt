use Prim.Native.Nat.{◌*◌}
use mathlib.Core.List.{[]}
use Rattle.blocks.specs.Frame.{first_words}
use Rattle.reader.specs.Reader.{list_of}
use Rattle.reader.specs.Value.{value_of}
use Rattle.open_layout.specs.Opened.{module_in}
use Rattle.sheet.specs.Decode.{field_of}
use Rattle.table_names.specs.Names.{named_fields, slot_pairs}
use Rattle.table_names.proofs.GatherSteps.{Gathers}
use Rattle.table_names.proofs.gather_fields.Given as goal

abbrev pub invariant-loop-slot : goal.invariant-loop-slot
invariant-loop-slot l = Gathers l.initial.work l.work (6 * l.o.layout.words) (slot_pairs (module_in (first_words l.sheet l.o.layout.words)) (named_fields (value_of [] (list_of field_of (first_words l.sheet l.o.layout.words) l.at)))) l.slot
