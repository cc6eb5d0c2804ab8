use borrow.Author.Rules.{rules}
use Rattle.utf8.proofs.Stepping.{nexts}
use Rattle.utf8.proofs.next.Goals as goal

pub returns-in-Done : goal.returns-in-Done
returns-in-Done c = search (rules, nexts)

pub returns-in-Tail1 : goal.returns-in-Tail1
returns-in-Tail1 c = search (rules, nexts)

pub returns-in-Tail2 : goal.returns-in-Tail2
returns-in-Tail2 c = search (rules, nexts)

pub returns-in-Tail3 : goal.returns-in-Tail3
returns-in-Tail3 c = search (rules, nexts)

pub returns-in-AfterE0 : goal.returns-in-AfterE0
returns-in-AfterE0 c = search (rules, nexts)

pub returns-in-AfterED : goal.returns-in-AfterED
returns-in-AfterED c = search (rules, nexts)

pub returns-in-AfterF0 : goal.returns-in-AfterF0
returns-in-AfterF0 c = search (rules, nexts)

pub returns-in-AfterF4 : goal.returns-in-AfterF4
returns-in-AfterF4 c = search (rules, nexts)

pub returns-in-Wrong : goal.returns-in-Wrong
returns-in-Wrong c = search (rules, nexts)
