use borrow.Author.Rules.{rules}
use native.Mathlib.Omega.{arith}
use Rattle.load_intact.proofs.LinkSteps.{clear, table_room, table_small, end_small, answer_passed, table_passed, answer_refused, table_refused}
use Rattle.load_intact.proofs.link_module.Goals as goal

pub write_table-end-requires : goal.write_table-end-requires
write_table-end-requires c = record { ready = c.check_module.ensures.ready_2; words_bound = c.requires.words_bound; clear = clear _ _ _ _ (c.in_ok-check_module.was {u = tt}) c.check_module.ensures.value c.check_module.ensures.ready_2 c.check_module.ensures.linked_if c.requires.words_bound; o_in_bounds = table_room _ _ _ _ (c.in_ok-check_module.was {u = tt}) c.check_module.ensures.value c.check_module.ensures.ready_2 c.check_module.ensures.linked_if c.args.table.now c.requires.fits; o_len_bound = table_small _ _ _ _ (c.in_ok-check_module.was {u = tt}) c.check_module.ensures.value c.check_module.ensures.ready_2 c.check_module.ensures.linked_if c.args.table.now c.requires.fits }

pub overflow_cast-result : goal.overflow_cast-result
overflow_cast-result c = omega (arith, end_small _ _ _ _ (c.in_ok-check_module.was {u = tt}) c.check_module.ensures.value c.check_module.ensures.ready_2 c.check_module.ensures.linked_if c.args.table.now c.requires.fits c.write_table-end.ensures.value)

pub returns-clause-value : goal.returns-clause-value
returns-clause-value c = answer_passed _ _ _ _ (c.in_ok-check_module.was {u = tt}) c.check_module.ensures.value c.check_module.ensures.ready_2 c.check_module.ensures.linked_if c.args.table.now c.requires.fits c.write_table-end.ensures.value

pub returns-clause-table_after : goal.returns-clause-table_after
returns-clause-table_after c = table_passed _ _ _ _ (c.in_ok-check_module.was {u = tt}) c.check_module.ensures.value c.check_module.ensures.ready_2 c.check_module.ensures.linked_if c.args.table.now c.requires.fits c.write_table-end.ensures.table_after

pub returns-in_err-check_module-clause-value : goal.returns-in_err-check_module-clause-value
returns-in_err-check_module-clause-value c =
    let s = answer_refused _ _ c.check_module.ensures.value _ (c.in_err-check_module.was {u = tt}) in
    search (s, rules)

pub returns-in_err-check_module-clause-table_after : goal.returns-in_err-check_module-clause-table_after
returns-in_err-check_module-clause-table_after c = table_refused _ _ c.check_module.ensures.value _ _ (c.in_err-check_module.was {u = tt})
