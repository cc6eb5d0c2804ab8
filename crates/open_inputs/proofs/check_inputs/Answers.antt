use borrow.Author.Rules.{rules}
use Rattle.open_inputs.proofs.InputsSteps.{inputting}
use Rattle.open_inputs.specs.Indexed.{now_indexed}
use Rattle.open_inputs.proofs.check_inputs.Goals as goal

pub returns-in_err-l-clause-value : goal.returns-in_err-l-clause-value
returns-in_err-l-clause-value c = search (rules, inputting, c.in_err-l.was)

pub returns-in_err-n-clause-value : goal.returns-in_err-n-clause-value
returns-in_err-n-clause-value c = search (rules, inputting, c.in_ok-l.ensures.ok_part, c.in_err-n.was)

pub returns-then-not-is_long_enough-clause-value : goal.returns-then-not-is_long_enough-clause-value
returns-then-not-is_long_enough-clause-value c = search (rules, inputting, c.in_ok-l.ensures.ok_part, c.in_ok-n.ensures.ok_part)

pub returns-clause-value : goal.returns-clause-value
returns-clause-value c = search (rules, inputting, c.in_ok-l.ensures.ok_part, c.in_ok-n.ensures.ok_part)

pub returns-clause-indexed_if : goal.returns-clause-indexed_if
returns-clause-indexed_if c = search (rules, now_indexed, c.in_ok-n.ensures.ok_part)
