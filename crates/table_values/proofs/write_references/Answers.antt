use borrow.Author.Rules.{rules}
use native.Mathlib.Omega.{arith}
use Rattle.table_values.proofs.ValueSteps.{present_within, present_whole}
use Rattle.table_values.proofs.PlaceSteps.{places_start, places_kept, places_room, places_next, places_after, places_place, places_few, places_end}
use Rattle.table_values.proofs.write_references.Goals as goal

pub overflow_add-p : goal.overflow_add-p
overflow_add-p c = omega arith

pub loop-i-init : goal.loop-i-init
loop-i-init c = search (rules, places_start)

pub overflow_mul-q : goal.overflow_mul-q
overflow_mul-q c = omega (arith, present_within _ _ _ _ _ c.requires.present _ c.loop-i-test.true)

pub overflow_add-q : goal.overflow_add-q
overflow_add-q c = omega (arith, present_within _ _ _ _ _ c.requires.present _ c.loop-i-test.true)

pub write_place-p-requires : goal.write_place-p-requires
write_place-p-requires c = search (rules, present_whole, places_room)

pub loop-i-preserved : goal.loop-i-preserved
loop-i-preserved c = search (rules, places_next)

pub overflow_sub-count : goal.overflow_sub-count
overflow_sub-count c = omega (arith, places_after _ _ _ _ _ _ _ c.requires.n_in_bounds _ _ _ c.loop-i.invariant)

pub overflow_sub-count-2 : goal.overflow_sub-count-2
overflow_sub-count-2 c = omega (arith, places_after _ _ _ _ _ _ _ c.requires.n_in_bounds _ _ _ c.loop-i.invariant)

pub overflow_cast-count : goal.overflow_cast-count
overflow_cast-count c = omega (arith, places_few _ _ _ _ _ _ _ c.requires.n_in_bounds _ _ _ c.loop-i.invariant c.loop-i-test.false)

pub push-requires : goal.push-requires
push-requires c = omega (arith, places_kept _ _ _ _ _ _ _ c.requires.n_in_bounds _ _ _ c.loop-i.invariant)

pub shape_of-table : goal.shape_of-table
shape_of-table c = omega (arith, places_kept _ _ _ _ _ _ _ c.requires.n_in_bounds _ _ _ c.loop-i.invariant)

pub returns : goal.returns
returns c = search (rules, places_end, places_place)
