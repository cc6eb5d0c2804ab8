use borrow.Author.Rules.{rules}
use Rattle.open_types.proofs.TypeSteps.{two_next, two_stop}
use Rattle.open_types.proofs.skip_two.Goals as goal

pub returns-in_err-p : goal.returns-in_err-p
returns-in_err-p c = search (rules, two_next, two_stop)

pub returns : goal.returns
returns c = search (rules, two_next, two_stop, c.in_ok-p.was)
