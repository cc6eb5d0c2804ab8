use borrow.Author.Rules.{rules}
use Rattle.query.proofs.SizeSteps.{measuring}
use Rattle.query.proofs.chain_length.Goals as goal

pub returns-in_err-own : goal.returns-in_err-own
returns-in_err-own c = search (rules, measuring)

pub overflow_add-result : goal.overflow_add-result
overflow_add-result c = search (rules, measuring, c.in_ok-own.was)

pub offset_bounds-table-own : goal.offset_bounds-table-own
offset_bounds-table-own c = search (rules, measuring, c.in_ok-own.was)

pub bounds-table-own : goal.bounds-table-own
bounds-table-own c = search (rules, measuring, c.in_ok-own.was)

pub returns-in-Some : goal.returns-in-Some
returns-in-Some c = search (rules, measuring, c.in_ok-own.was)

pub returns-in-None : goal.returns-in-None
returns-in-None c = search (rules, measuring, c.in_ok-own.was)
