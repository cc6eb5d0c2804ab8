use borrow.Author.Rules.{rules}
use native.Mathlib.Omega.{arith}
use Rattle.std.proofs.lemmas.Result.{err_from_is_err_and}
use Rattle.rule7_parts.proofs.TableSteps.{tables_within, tables_fit, tables}
use Rattle.rule7_parts.proofs.check_tables.Goals as goal

pub overflow_add-p : goal.overflow_add-p
overflow_add-p c = omega (arith, tables_within _ _ _ c.requires.framed, c.requires.words_bound)

pub loop-init : goal.loop-init
loop-init c = search (rules, tables)

pub check_table-requires-clause-whole : goal.check_table-requires-clause-whole
check_table-requires-clause-whole c = search (rules, tables)

pub returns-in_err-check_table : goal.returns-in_err-check_table
returns-in_err-check_table c =
    let p = err_from_is_err_and c.from_residual.result c.from_residual.ensures.1 in
    rw (p.1, p.2) (search (rules, tables, c.in_err-check_table.was))

pub overflow_add-p-in-loop-2 : goal.overflow_add-p-in-loop-2
overflow_add-p-in-loop-2 c = omega (arith, tables_fit _ _ _ c.requires.framed _ _ c.loop.invariant c.loop-test.true c.word.ensures, c.requires.words_bound)

pub loop-preserved : goal.loop-preserved
loop-preserved c = search (rules, tables, c.in_ok-check_table.was)

pub returns : goal.returns
returns c = search (rules, tables)
