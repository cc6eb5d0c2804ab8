use borrow.Author.Rules.{rules}
use Rattle.query.proofs.SizeSteps.{sizing}
use Rattle.query.proofs.family_size.Goals as goal

pub returns-in_err-own : goal.returns-in_err-own
returns-in_err-own c = search (rules, sizing)

pub overflow_add-own : goal.overflow_add-own
overflow_add-own c = search (rules, sizing, c.in_ok-own.was)

pub offset_bounds-table-own : goal.offset_bounds-table-own
offset_bounds-table-own c = search (rules, sizing, c.in_ok-own.was)

pub bounds-table-own : goal.bounds-table-own
bounds-table-own c = search (rules, sizing, c.in_ok-own.was)

pub offset_bounds-table-own-in-Some : goal.offset_bounds-table-own-in-Some
offset_bounds-table-own-in-Some c = search (rules, sizing, c.in_ok-own.was)

pub bounds-table-own-in-Some : goal.bounds-table-own-in-Some
bounds-table-own-in-Some c = search (rules, sizing, c.in_ok-own.was)

pub returns-in-Some : goal.returns-in-Some
returns-in-Some c = search (rules, sizing, c.in_ok-own.was)

pub returns-in-None : goal.returns-in-None
returns-in-None c = search (rules, sizing, c.in_ok-own.was)
