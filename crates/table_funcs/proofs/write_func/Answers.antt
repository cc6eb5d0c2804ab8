use Rattle.table_funcs.proofs.SectionSteps.{sound, func_first, func_second, func_third, func_written, func_place}
use Rattle.table_funcs.proofs.write_func.Goals as goal

pub open_frame-c-requires : goal.open_frame-c-requires
open_frame-c-requires c = record { ready = c.requires.ready; f_lt_funcs = c.requires.f_lt_funcs }

pub write_head-p-requires : goal.write_head-p-requires
write_head-p-requires c = record { ready = c.requires.ready; sound = (sound _ _ _ c.requires.ready c.requires.words_bound c.requires.o_value _ c.requires.f_value _ c.open_frame-c.ensures.framed c.open_frame-c.ensures.func_value); c_in_bounds = func_first _ _ _ c.open_frame-c.ensures.func_value c.args.table.now _ c.requires.f_in_bounds }

pub write_middle-q-requires : goal.write_middle-q-requires
write_middle-q-requires c = record { ready = c.requires.ready; sound = (sound _ _ _ c.requires.ready c.requires.words_bound c.requires.o_value _ c.requires.f_value _ c.open_frame-c.ensures.framed c.open_frame-c.ensures.func_value); c_in_bounds = func_second _ _ _ c.open_frame-c.ensures.func_value c.args.table.now _ c.requires.f_in_bounds _ _ c.write_head-p.ensures.table_after c.write_head-p.ensures.value }

pub write_tail-requires : goal.write_tail-requires
write_tail-requires c = record { ready = c.requires.ready; sound = (sound _ _ _ c.requires.ready c.requires.words_bound c.requires.o_value _ c.requires.f_value _ c.open_frame-c.ensures.framed c.open_frame-c.ensures.func_value); c_in_bounds = func_third _ _ _ c.open_frame-c.ensures.func_value c.args.table.now _ c.requires.f_in_bounds _ _ c.write_head-p.ensures.table_after c.write_head-p.ensures.value _ _ c.write_middle-q.ensures.table_after c.write_middle-q.ensures.value }

pub returns : goal.returns
returns c = record { table_after = func_written _ _ _ c.open_frame-c.ensures.func_value c.args.table.now _ c.requires.f_in_bounds _ _ c.write_head-p.ensures.table_after c.write_head-p.ensures.value _ _ c.write_middle-q.ensures.table_after c.write_middle-q.ensures.value c.write_tail.ensures.table_after; value = func_place _ _ _ c.open_frame-c.ensures.func_value c.args.table.now _ c.requires.f_in_bounds _ _ c.write_head-p.ensures.table_after c.write_head-p.ensures.value _ _ c.write_middle-q.ensures.table_after c.write_middle-q.ensures.value c.write_tail.ensures.value; frame = c.write_tail.ensures.frame }
