use borrow.Author.Rules.{rules}
use Rattle.std.proofs.lemmas.Result.{err_from_is_err_and}
use native.Mathlib.Omega.{arith}
use Rattle.rule4_nesting.proofs.ByKind.{kinds, array_whole, map_whole, const_fits}
use Rattle.rule4_nesting.proofs.nest_const.Goals as goal

pub overflow_add-at : goal.overflow_add-at
overflow_add-at c = omega (arith, const_fits)

pub overflow_add-at-in-2 : goal.overflow_add-at-in-2
overflow_add-at-in-2 c = omega (arith, const_fits)

pub overflow_add-at-in-2-2 : goal.overflow_add-at-in-2-2
overflow_add-at-in-2-2 c = omega (arith, const_fits)

pub nest-requires : goal.nest-requires
nest-requires c = search (rules, array_whole)

pub overflow_add-at-in_default : goal.overflow_add-at-in_default
overflow_add-at-in_default c = omega (arith, const_fits)

pub overflow_add-at-in_default-2 : goal.overflow_add-at-in_default-2
overflow_add-at-in_default-2 c = omega (arith, const_fits)

pub nest-requires-in_default : goal.nest-requires-in_default
nest-requires-in_default c = search (rules, map_whole)

pub returns-in-0 : goal.returns-in-0
returns-in-0 c = search (rules, kinds)

pub returns-in_ok-string_in-in-1 : goal.returns-in_ok-string_in-in-1
returns-in_ok-string_in-in-1 c = search (rules, kinds, c.in_ok-string_in-in-1.was)

pub returns-in_err-string_in-in-1 : goal.returns-in_err-string_in-in-1
returns-in_err-string_in-in-1 c =
    let p = err_from_is_err_and c.from_residual.result c.from_residual.ensures.1 in
    rw (p.1, p.2) (search (rules, kinds, c.in_err-string_in-in-1.was))

pub returns-in-2 : goal.returns-in-2
returns-in-2 c = search (rules, kinds)

pub returns-in_default : goal.returns-in_default
returns-in_default c = search (rules, kinds)
