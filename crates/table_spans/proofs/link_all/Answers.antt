use native.Mathlib.Omega.{arith}
use Rattle.table_spans.proofs.LinkSteps.{types_few, counted, links_start, links_next, links_down, links_length, links_end}
use Rattle.table_spans.proofs.link_all.Goals as goal

pub overflow_mul-o : goal.overflow_mul-o
overflow_mul-o c = omega (arith, c.requires.ready.room)

pub overflow_add-n : goal.overflow_add-n
overflow_add-n c = omega (arith, c.struct_known-1.given)

pub fill-requires : goal.fill-requires
fill-requires c = omega (arith, c.requires.ready.room, counted _ _ _ c.requires.ready, types_few _ _ _ c.requires.ready, c.struct_known-1.given)

pub loop-i-init : goal.loop-i-init
loop-i-init c = links_start _ _ _ c.requires.ready _ c.fill.ensures.frame c.fill.ensures.by_index

pub link-requires : goal.link-requires
link-requires c = record { ready = c.loop-i.invariant.ready; o_value = c.requires.o_value; linking = links_down _ _ _ c.requires.ready _ _ _ _ c.loop-i.invariant c.loop-i-test.true; t_lt_types = omega (arith, c.loop-i.invariant.low) }

pub loop-i-preserved : goal.loop-i-preserved
loop-i-preserved c = links_next _ _ _ c.requires.ready _ _ _ _ c.loop-i.invariant c.loop-i-test.true _ c.link.ensures.linking_2 c.link.ensures.frame

pub shape_of-work : goal.shape_of-work
shape_of-work c = links_length _ _ _ c.requires.ready _ _ _ c.fill.ensures.frame c.loop-i.invariant

pub returns : goal.returns
returns c = record { linked = (links_end _ _ _ c.requires.ready _ _ _ c.fill.ensures.frame c.loop-i.invariant (omega arith)).0; frame = (links_end _ _ _ c.requires.ready _ _ _ c.fill.ensures.frame c.loop-i.invariant (omega arith)).1 }
