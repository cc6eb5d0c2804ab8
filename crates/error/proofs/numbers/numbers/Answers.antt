use borrow.Author.Rules.{rules}
use Rattle.error.proofs.NumbersLaws.{by_accepted, by_refused}
use Rattle.error.proofs.numbers.numbers.Goals as goal

pub returns-in-Ok : goal.returns-in-Ok
returns-in-Ok c = search (rules, by_accepted, by_refused)

pub returns-in-Err : goal.returns-in-Err
returns-in-Err c = search (rules, by_accepted, by_refused)
