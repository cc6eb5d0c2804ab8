use native.Mathlib.Omega.{arith}
use Rattle.table_names.proofs.GatherSteps.{gathers_start, still_ready, fields_fit, fields_turn, fields_next, fields_end}
use Rattle.table_names.proofs.gather_fields.Goals as goal

pub overflow_mul-to : goal.overflow_mul-to
overflow_mul-to c = omega (arith, c.requires.ready.room)

pub loop-slot-init : goal.loop-slot-init
loop-slot-init c = gathers_start _ _ _

pub overflow_add-p : goal.overflow_add-p
overflow_add-p c = let f = fields_fit _ _ _ _ _ _ _ c.requires.ready c.requires.whole c.requires.count_value c.loop-slot.invariant in omega (arith, f.0, f.1, f.2)

pub overflow_mul-p : goal.overflow_mul-p
overflow_mul-p c = let f = fields_fit _ _ _ _ _ _ _ c.requires.ready c.requires.whole c.requires.count_value c.loop-slot.invariant in omega (arith, f.0, f.1, f.2)

pub overflow_add-p-in-loop-slot : goal.overflow_add-p-in-loop-slot
overflow_add-p-in-loop-slot c = let f = fields_fit _ _ _ _ _ _ _ c.requires.ready c.requires.whole c.requires.count_value c.loop-slot.invariant in omega (arith, f.0, f.1, f.2)

pub overflow_mul-slot : goal.overflow_mul-slot
overflow_mul-slot c = let f = fields_fit _ _ _ _ _ _ _ c.requires.ready c.requires.whole c.requires.count_value c.loop-slot.invariant in omega (arith, f.0, f.1, f.2)

pub overflow_add-to : goal.overflow_add-to
overflow_add-to c = let f = fields_fit _ _ _ _ _ _ _ c.requires.ready c.requires.whole c.requires.count_value c.loop-slot.invariant in omega (arith, f.0, f.1, f.2)

pub overflow_cast-slot : goal.overflow_cast-slot
overflow_cast-slot c = let f = fields_fit _ _ _ _ _ _ _ c.requires.ready c.requires.whole c.requires.count_value c.loop-slot.invariant in omega (arith, f.0, f.1, f.2)

pub put_name-requires : goal.put_name-requires
put_name-requires c = let f = fields_fit _ _ _ _ _ _ _ c.requires.ready c.requires.whole c.requires.count_value c.loop-slot.invariant in record { ready = still_ready _ _ _ _ c.requires.ready c.loop-slot.invariant.frame; p_in_bounds = fields_turn _ _ _ _ _ _ _ c.requires.ready c.requires.whole c.requires.count_value c.loop-slot.invariant c.requires.at_value (omega arith); to_in_bounds = omega (arith, f.0, f.1, f.2) }

pub loop-slot-preserved : goal.loop-slot-preserved
loop-slot-preserved c = fields_next _ _ _ _ _ _ _ c.requires.ready c.requires.whole c.requires.count_value c.loop-slot.invariant _ (omega arith) c.put_name.ensures

pub shape_of-work : goal.shape_of-work
shape_of-work c = c.loop-slot.invariant.frame.len

pub returns : goal.returns
returns c = fields_end _ _ _ _ _ _ _ c.requires.ready c.requires.whole c.requires.count_value c.loop-slot.invariant (omega arith)
