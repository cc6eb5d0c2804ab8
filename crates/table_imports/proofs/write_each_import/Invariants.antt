use Rattle.blocks.specs.Frame.{first_words}
use Rattle.table_imports.specs.Sections.{linked_import}
use Rattle.table_imports.proofs.RowSteps.{Rows}
use Rattle.table_imports.proofs.write_each_import.Given as goal

abbrev pub invariant-loop-i : goal.invariant-loop-i
invariant-loop-i l = Rows (linked_import (first_words l.sheet l.o.layout.words) l.work l.o) l.o.counts.imports l.initial.table l.at l.i l.table l.p
