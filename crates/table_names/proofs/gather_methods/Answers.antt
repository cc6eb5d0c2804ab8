use native.Mathlib.Omega.{arith}
use Rattle.table_names.proofs.GatherSteps.{gathers_start, still_ready, methods_fit, methods_turn, methods_next, methods_end}
use Rattle.table_names.proofs.gather_methods.Goals as goal

pub overflow_mul-to : goal.overflow_mul-to
overflow_mul-to c = omega (arith, c.requires.ready.room)

pub loop-i-init : goal.loop-i-init
loop-i-init c = gathers_start _ _ _

pub overflow_add-p : goal.overflow_add-p
overflow_add-p c = let f = methods_fit _ _ _ _ _ _ _ c.requires.ready c.requires.whole c.requires.count_value c.loop-i.invariant in omega (arith, f.0, f.1)

pub overflow_mul-p : goal.overflow_mul-p
overflow_mul-p c = let f = methods_fit _ _ _ _ _ _ _ c.requires.ready c.requires.whole c.requires.count_value c.loop-i.invariant in omega (arith, f.0, f.1)

pub overflow_add-p-in-loop-i : goal.overflow_add-p-in-loop-i
overflow_add-p-in-loop-i c = let f = methods_fit _ _ _ _ _ _ _ c.requires.ready c.requires.whole c.requires.count_value c.loop-i.invariant in omega (arith, f.0, f.1)

pub overflow_mul-i : goal.overflow_mul-i
overflow_mul-i c = let f = methods_fit _ _ _ _ _ _ _ c.requires.ready c.requires.whole c.requires.count_value c.loop-i.invariant in omega (arith, f.0, f.1)

pub overflow_add-to : goal.overflow_add-to
overflow_add-to c = let f = methods_fit _ _ _ _ _ _ _ c.requires.ready c.requires.whole c.requires.count_value c.loop-i.invariant in omega (arith, f.0, f.1)

pub overflow_add-p-in-loop-i-2 : goal.overflow_add-p-in-loop-i-2
overflow_add-p-in-loop-i-2 c = let f = methods_fit _ _ _ _ _ _ _ c.requires.ready c.requires.whole c.requires.count_value c.loop-i.invariant in omega (arith, f.0, f.1)

pub put_name-requires : goal.put_name-requires
put_name-requires c = let f = methods_fit _ _ _ _ _ _ _ c.requires.ready c.requires.whole c.requires.count_value c.loop-i.invariant in record { ready = still_ready _ _ _ _ c.requires.ready c.loop-i.invariant.frame; p_in_bounds = methods_turn _ _ _ _ _ _ _ c.requires.ready c.requires.whole c.requires.count_value c.loop-i.invariant c.requires.at_value (omega arith); to_in_bounds = omega (arith, f.0, f.1) }

pub loop-i-preserved : goal.loop-i-preserved
loop-i-preserved c = methods_next _ _ _ _ _ _ _ c.requires.ready c.requires.whole c.requires.count_value c.loop-i.invariant _ (omega arith) c.word.ensures c.put_name.ensures

pub shape_of-work : goal.shape_of-work
shape_of-work c = c.loop-i.invariant.frame.len

pub returns : goal.returns
returns c = methods_end _ _ _ _ _ _ _ c.requires.ready c.requires.whole c.requires.count_value c.loop-i.invariant (omega arith)
