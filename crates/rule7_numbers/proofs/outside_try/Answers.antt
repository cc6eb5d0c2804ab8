use borrow.Author.Rules.{rules}
use Rattle.rule7_numbers.proofs.NumberSteps.{try_broken, try_tested}
use Rattle.rule7_numbers.proofs.outside_try.Goals as goal

pub returns-in_err-v : goal.returns-in_err-v
returns-in_err-v c = search (rules, try_broken)

pub returns : goal.returns
returns c = search (rules, try_tested, c.in_ok-v.was)
