use native.Mathlib.Omega.{arith}
use Rattle.table_imports.proofs.RowSteps.{rows_start, rows_end, rows_place, rows_length}
use Rattle.table_imports.proofs.CanonSteps.{number_room, canon_room, canon_next}
use Rattle.table_imports.proofs.write_each_canon.Goals as goal

pub loop-i-init : goal.loop-i-init
loop-i-init c = rows_start _ _ _ _

pub canon_type-t-requires : goal.canon_type-t-requires
canon_type-t-requires c = number_room _ _ _ c.requires.ready _ c.loop-i-test.true

pub push-p-requires : goal.push-p-requires
push-p-requires c = canon_room _ _ _ c.requires.ready _ c.loop-i-test.true _ _ _ _ c.loop-i.invariant c.requires.types_in_bounds

pub loop-i-preserved : goal.loop-i-preserved
loop-i-preserved c =
    canon_next _ _ _ c.requires.ready _ c.loop-i-test.true _ _ _ _ c.loop-i.invariant c.requires.types_in_bounds _ _ c.canon_type-t.ensures c.push-p.ensures.table_after c.push-p.ensures.value

pub shape_of-table : goal.shape_of-table
shape_of-table c = rows_length _ _ _ _ _ _ _ c.loop-i.invariant c.requires.types_in_bounds

pub returns : goal.returns
returns c = record { table_after = rows_end _ _ _ _ _ _ _ c.loop-i.invariant (omega (arith, c.loop-i-test.false)); value = rows_place _ _ _ _ _ _ _ c.loop-i.invariant (omega (arith, c.loop-i-test.false)) }
