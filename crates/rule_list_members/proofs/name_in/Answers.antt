use borrow.Author.Rules.{rules}
use Rattle.rule_list_members.proofs.MemberSteps.{nothing_in, number_in}
use Rattle.rule_list_members.proofs.name_in.Goals as goal

pub returns-in-None : goal.returns-in-None
returns-in-None c = search (rules, nothing_in, number_in)

pub returns-in-Some : goal.returns-in-Some
returns-in-Some c = search (rules, nothing_in, number_in)
