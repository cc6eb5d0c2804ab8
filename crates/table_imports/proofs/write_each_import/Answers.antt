use native.Mathlib.Omega.{arith}
use Rattle.table_imports.proofs.RowSteps.{rows_start, rows_end, rows_place, rows_length}
use Rattle.table_imports.proofs.ImportSteps.{import_room, import_next}
use Rattle.table_imports.proofs.write_each_import.Goals as goal

pub loop-i-init : goal.loop-i-init
loop-i-init c = rows_start _ _ _ _

pub write_import-p-requires : goal.write_import-p-requires
write_import-p-requires c =
    record { ready = c.requires.ready; sigs_inside = c.requires.sigs_inside; i_lt_imports = c.loop-i-test.true; at_in_bounds = import_room _ _ _ _ _ _ _ _ c.loop-i.invariant c.requires.imports_in_bounds c.loop-i-test.true }

pub loop-i-preserved : goal.loop-i-preserved
loop-i-preserved c =
    import_next _ _ _ _ _ _ _ _ c.loop-i.invariant c.requires.imports_in_bounds c.loop-i-test.true _ _ c.write_import-p.ensures.table_after c.write_import-p.ensures.value

pub shape_of-table : goal.shape_of-table
shape_of-table c = rows_length _ _ _ _ _ _ _ c.loop-i.invariant c.requires.imports_in_bounds

pub returns : goal.returns
returns c = record { table_after = rows_end _ _ _ _ _ _ _ c.loop-i.invariant (omega (arith, c.loop-i-test.false)); value = rows_place _ _ _ _ _ _ _ c.loop-i.invariant (omega (arith, c.loop-i-test.false)) }
