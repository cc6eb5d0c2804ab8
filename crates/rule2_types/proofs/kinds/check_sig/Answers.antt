use borrow.Author.Rules.{rules}
use native.Mathlib.Omega.{arith}
use Rattle.rule2_types.proofs.KindRules.{func_room, func_params, func_results, sig_many, sig_stop, sig_then}
use Rattle.rule2_types.proofs.kinds.check_sig.Goals as goal

pub overflow_add-results_at : goal.overflow_add-results_at
overflow_add-results_at c = omega (arith, func_room)

pub overflow_add-results_at-2 : goal.overflow_add-results_at-2
overflow_add-results_at-2 c = omega (arith, func_room)

pub returns-then-results-gt1 : goal.returns-then-results-gt1
returns-then-results-gt1 c = search (rules, sig_many)

pub check_values-requires-clause-whole : goal.check_values-requires-clause-whole
check_values-requires-clause-whole c = search (rules, func_params)

pub returns-in_err-check_values : goal.returns-in_err-check_values
returns-in_err-check_values c =
    let s = sig_stop _ _ _ c.requires.whole c.word-params.ensures _ c.word-results.ensures c.if-results-gt1.false c.check_values.ensures
    (c.in_err-check_values.was {u = tt}) in
    search (rules, s)

pub check_values-requires-2-clause-whole : goal.check_values-requires-2-clause-whole
check_values-requires-2-clause-whole c = search (rules, func_results)

pub returns : goal.returns
returns c = search (rules, sig_then, c.in_ok-check_values.was)
