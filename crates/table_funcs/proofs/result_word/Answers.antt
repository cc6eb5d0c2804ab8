use native.Mathlib.Omega.{arith}
use Rattle.table_funcs.proofs.Results.{sig_has, result_none, result_whole, result_holds, result_small, result_some, results_in}
use Rattle.table_funcs.proofs.result_word.Goals as goal

pub returns-then-result_count-eq0 : goal.returns-then-result_count-eq0
returns-then-result_count-eq0 c = result_none _ _ c.requires.sound c.result_count.ensures c.if-result_count-eq0.true

pub results_at-p-requires : goal.results_at-p-requires
results_at-p-requires c = record { ready = c.requires.ready; has_sig = sig_has _ _ c.requires.sound }

pub overflow_add-p : goal.overflow_add-p
overflow_add-p c = omega (arith, results_in _ _ _ c.results_at-p.ensures.whole, c.requires.ready.room, c.well_formed.1.0)

pub canon_at-requires : goal.canon_at-requires
canon_at-requires c = record { ready = c.requires.ready; whole = result_whole _ _ c.requires.sound c.result_count.ensures c.if-result_count-eq0.false _ c.results_at-p.ensures.whole c.results_at-p.ensures.result_value; at_value = result_holds _ _ c.requires.sound c.result_count.ensures c.if-result_count-eq0.false _ c.results_at-p.ensures.whole c.results_at-p.ensures.result_value }

pub overflow_add-result : goal.overflow_add-result
overflow_add-result c = omega (arith, result_small _ _ c.requires.sound c.result_count.ensures c.if-result_count-eq0.false _ c.results_at-p.ensures.whole c.results_at-p.ensures.result_value c.canon_at.ensures)

pub returns : goal.returns
returns c = result_some _ _ c.requires.sound c.result_count.ensures c.if-result_count-eq0.false _ c.results_at-p.ensures.whole c.results_at-p.ensures.result_value c.canon_at.ensures
