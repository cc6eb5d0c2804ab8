use native.Mathlib.Omega.{arith}
use Rattle.table_funcs.proofs.HeadSteps.{regs_in}
use Rattle.table_funcs.proofs.MiddleSteps.{captures_in, regs_present, captures_good, middle_first, middle_second, middle_third, middle_written, middle_place}
use Rattle.table_funcs.proofs.write_middle.Goals as goal

pub result_word-result-requires : goal.result_word-result-requires
result_word-result-requires c = record { ready = c.requires.ready; sound = c.requires.sound }

pub push-p-requires : goal.push-p-requires
push-p-requires c = middle_first _ _ c.requires.sound c.args.table.now _ c.requires.c_in_bounds

pub overflow_add-c : goal.overflow_add-c
overflow_add-c c = omega (arith, regs_in _ _ _ c.requires.sound, c.requires.ready.room, c.well_formed.1.0)

pub write_references-q-requires : goal.write_references-q-requires
write_references-q-requires c = record { present = regs_present _ _ c.requires.sound; n_in_bounds = middle_second _ _ c.requires.sound c.args.table.now _ c.requires.c_in_bounds c.result_word-result.ensures _ _ c.push-p.ensures.table_after c.push-p.ensures.value }

pub overflow_add-c-2 : goal.overflow_add-c-2
overflow_add-c-2 c = omega (arith, captures_in _ _ _ c.requires.sound, c.requires.ready.room, c.well_formed.1.0)

pub write_values-requires : goal.write_values-requires
write_values-requires c = record { ready = c.requires.ready; values = captures_good _ _ c.requires.sound; n_in_bounds = middle_third _ _ c.requires.sound c.args.table.now _ c.requires.c_in_bounds c.result_word-result.ensures _ _ c.push-p.ensures.table_after c.push-p.ensures.value _ _ c.write_references-q.ensures.table_after c.write_references-q.ensures.value }

pub returns : goal.returns
returns c = record { table_after = middle_written _ _ c.requires.sound c.args.table.now _ c.requires.c_in_bounds c.result_word-result.ensures _ _ c.push-p.ensures.table_after c.push-p.ensures.value _ _ c.write_references-q.ensures.table_after c.write_references-q.ensures.value c.write_values.ensures.table_after; value = middle_place _ _ c.requires.sound c.args.table.now _ c.requires.c_in_bounds c.result_word-result.ensures _ _ c.push-p.ensures.table_after c.push-p.ensures.value _ _ c.write_references-q.ensures.table_after c.write_references-q.ensures.value c.write_values.ensures.value }
