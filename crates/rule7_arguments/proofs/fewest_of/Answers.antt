use borrow.Author.Rules.{rules}
use borrow.Author.Tests.{not-true, not-false}
use native.Mathlib.Omega.{arith}
use Rattle.rule7_arguments.proofs.ArgumentSteps.{list_in, listed_inside, fewest_whole, fewest_unlisted, fewest_listed}
use Rattle.rule7_arguments.proofs.fewest_of.Goals as goal

pub returns-then-not-may_leave_out : goal.returns-then-not-may_leave_out
returns-then-not-may_leave_out c = search (rules, not-true, fewest_whole)

pub returns-then-word-eq0 : goal.returns-then-word-eq0
returns-then-word-eq0 c = search (rules, not-false, fewest_unlisted)

pub overflow_add-at : goal.overflow_add-at
overflow_add-at c = omega (arith, list_in)

pub overflow_add-at-2 : goal.overflow_add-at-2
overflow_add-at-2 c = omega (arith, list_in)

pub count_mandatory-requires : goal.count_mandatory-requires
count_mandatory-requires c = search (rules, listed_inside)

pub returns : goal.returns
returns c = search (rules, not-false, fewest_listed)
