use borrow.Author.Rules.{rules}
use native.Mathlib.Omega.{arith}
use Rattle.rule5_globals.proofs.GlobalSteps.{global_within, global_value, global_stop, global_none, global_const}
use Rattle.rule5_globals.proofs.check_global.Goals as goal

pub check_value-requires : goal.check_value-requires
check_value-requires c = search (rules, global_value)

pub returns-in_err-check_value : goal.returns-in_err-check_value
returns-in_err-check_value c =
    let s = global_stop _ c.args.o _ c.requires.whole c.check_value.ensures (c.in_err-check_value.was {u = tt}) in
    search (rules, s)

pub overflow_add-at : goal.overflow_add-at
overflow_add-at c = omega (arith, global_within)

pub returns-then-init-eq0 : goal.returns-then-init-eq0
returns-then-init-eq0 c = search (rules, global_none, c.in_ok-check_value.was)

pub returns : goal.returns
returns c = search (rules, global_const, c.in_ok-check_value.was)
