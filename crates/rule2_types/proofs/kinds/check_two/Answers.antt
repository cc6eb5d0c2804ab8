use borrow.Author.Rules.{rules}
use native.Mathlib.Omega.{arith}
use Rattle.rule2_types.proofs.KindRules.{two_in, two_key, two_value, two_stop, two_then}
use Rattle.rule2_types.proofs.kinds.check_two.Goals as goal

pub check_value-requires-clause-whole : goal.check_value-requires-clause-whole
check_value-requires-clause-whole c = search (rules, two_key)

pub returns-in_err-check_value : goal.returns-in_err-check_value
returns-in_err-check_value c =
    let s = two_stop _ _ c.requires.whole _ c.check_value.ensures (c.in_err-check_value.was {u = tt}) in
    search (rules, s)

pub overflow_add-at : goal.overflow_add-at
overflow_add-at c = omega (arith, two_in)

pub check_value-requires-2-clause-whole : goal.check_value-requires-2-clause-whole
check_value-requires-2-clause-whole c = search (rules, two_value)

pub returns : goal.returns
returns c = search (rules, two_then, c.in_ok-check_value.was)
