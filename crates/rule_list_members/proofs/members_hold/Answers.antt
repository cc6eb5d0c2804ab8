use borrow.Author.Rules.{rules}
use borrow.Author.Tests.{not-true, not-false}
use Rattle.rule_list_members.proofs.MemberSteps.{holding}
use Rattle.rule_list_members.proofs.members_hold.Goals as goal

pub returns-then-not-member_holds : goal.returns-then-not-member_holds
returns-then-not-member_holds c = search (rules, holding, not-true, not-false)

pub loop-preserved : goal.loop-preserved
loop-preserved c = search (rules, holding, not-true, not-false)

pub returns : goal.returns
returns c = search (rules, holding, not-true, not-false)
