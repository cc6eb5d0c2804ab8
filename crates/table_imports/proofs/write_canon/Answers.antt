use native.Mathlib.Omega.{arith}
use Rattle.table_imports.proofs.CanonSteps.{canons_room, canons_written, canons_end}
use Rattle.table_imports.proofs.write_canon.Goals as goal

pub push-first-requires : goal.push-first-requires
push-first-requires c = omega (arith, c.requires.o_in_bounds)

pub write_each_canon-requires : goal.write_each_canon-requires
write_each_canon-requires c =
    record { ready = c.requires.ready; types_in_bounds = canons_room _ _ _ c.requires.ready c.args.table.now _ c.requires.o_in_bounds _ _ _ c.push-first.ensures.table_after c.push-first.ensures.value }

pub returns : goal.returns
returns c =
    record { table_after = canons_written _ _ _ c.requires.ready c.args.table.now _ c.requires.o_in_bounds _ _ c.push-first.ensures.table_after c.push-first.ensures.value _ c.write_each_canon.ensures.table_after; value = canons_end _ _ _ c.requires.ready c.args.table.now _ c.requires.o_in_bounds _ _ c.push-first.ensures.table_after c.push-first.ensures.value _ c.write_each_canon.ensures.value }
