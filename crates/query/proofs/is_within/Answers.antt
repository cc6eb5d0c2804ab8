use borrow.Author.Rules.{rules}
use Rattle.query.proofs.QuerySteps.{withins}
use Rattle.query.proofs.is_within.Goals as goal

pub returns-then-count-t : goal.returns-then-count-t
returns-then-count-t c = search (rules, withins)

pub returns-then-count-a : goal.returns-then-count-a
returns-then-count-a c = search (rules, withins)

pub overflow_add-first : goal.overflow_add-first
overflow_add-first c = search (rules, withins)

pub overflow_mul-own : goal.overflow_mul-own
overflow_mul-own c = search (rules, withins)

pub overflow_add-own : goal.overflow_add-own
overflow_add-own c = search (rules, withins)

pub overflow_mul-t : goal.overflow_mul-t
overflow_mul-t c = search (rules, withins)

pub overflow_add-first-2 : goal.overflow_add-first-2
overflow_add-first-2 c = search (rules, withins)

pub at-pre-requires : goal.at-pre-requires
at-pre-requires c = search (rules, withins)

pub at-requires : goal.at-requires
at-requires c = search (rules, withins)

pub returns-then-pre-at : goal.returns-then-pre-at
returns-then-pre-at c = search (rules, withins)

pub overflow_add-own-2 : goal.overflow_add-own-2
overflow_add-own-2 c = search (rules, withins)

pub at-requires-2 : goal.at-requires-2
at-requires-2 c = search (rules, withins)

pub returns : goal.returns
returns c = search (rules, withins)
