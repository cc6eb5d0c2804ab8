use Rattle.blocks.specs.Frame.{first_words}
use Rattle.open_layout.specs.Opened.{module_in}
use Rattle.table_imports.specs.Sections.{canon_of}
use Rattle.table_imports.proofs.RowSteps.{Rows}
use Rattle.table_imports.proofs.write_each_canon.Given as goal

abbrev pub invariant-loop-i : goal.invariant-loop-i
invariant-loop-i l = Rows (canon_of (module_in (first_words l.sheet l.o.layout.words)).types) l.o.counts.types l.initial.table l.at l.i l.table l.p
