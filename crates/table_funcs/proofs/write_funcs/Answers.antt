use native.Mathlib.Omega.{arith}
use Rattle.blocks.specs.Frame.{first_words}
use Rattle.table_funcs.proofs.SectionSteps.{recorded_start, section_first, recorded_length, recorded_written, recorded_place, recorded_holds, recorded_room, recorded_next}
use Rattle.table_funcs.proofs.write_funcs.Goals as goal

pub push-p-requires : goal.push-p-requires
push-p-requires c = section_first (first_words c.args.sheet.now c.args.o.layout.words) c.args.work.now c.args.o c.args.table.now _ c.requires.o_in_bounds

pub loop-f-init : goal.loop-f-init
loop-f-init c = recorded_start _ _ _ c.requires.ready _ _

pub write_func-p-requires : goal.write_func-p-requires
write_func-p-requires c = record { ready = c.loop-f.invariant.ready; words_bound = c.requires.words_bound; o_value = c.requires.o_value; f_lt_funcs = c.loop-f-test.true; f_value = recorded_holds _ _ _ c.args.table.now _ c.requires.o_in_bounds _ _ c.push-p.ensures.table_after c.push-p.ensures.value _ _ _ _ c.loop-f.invariant c.loop-f-test.true c.requires.o_value_2; f_in_bounds = recorded_room _ _ _ c.args.table.now _ c.requires.o_in_bounds _ _ c.push-p.ensures.table_after c.push-p.ensures.value _ _ _ _ c.loop-f.invariant c.loop-f-test.true }

pub loop-f-preserved : goal.loop-f-preserved
loop-f-preserved c = recorded_next _ _ _ c.args.table.now _ c.requires.o_in_bounds _ _ c.push-p.ensures.table_after c.push-p.ensures.value _ _ _ _ c.loop-f.invariant c.loop-f-test.true _ _ _ c.write_func-p.ensures.table_after c.write_func-p.ensures.value c.write_func-p.ensures.frame

pub shape_of-work : goal.shape_of-work
shape_of-work c = c.loop-f.invariant.kept.len

pub shape_of-table : goal.shape_of-table
shape_of-table c = recorded_length _ _ _ c.args.table.now _ c.requires.o_in_bounds _ _ c.push-p.ensures.table_after c.push-p.ensures.value _ _ _ _ c.loop-f.invariant

pub returns : goal.returns
returns c = record { table_after = recorded_written _ _ _ c.args.table.now _ c.requires.o_in_bounds _ _ c.push-p.ensures.table_after c.push-p.ensures.value _ _ _ _ c.loop-f.invariant c.loop-f-test.false; value = recorded_place _ _ _ c.args.table.now _ c.requires.o_in_bounds _ _ c.push-p.ensures.table_after c.push-p.ensures.value _ _ _ _ c.loop-f.invariant c.loop-f-test.false; frame = c.loop-f.invariant.kept }
