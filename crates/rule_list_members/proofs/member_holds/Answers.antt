use borrow.Author.Rules.{rules}
use borrow.Author.Tests.{not-true, not-false}
use Rattle.rule_list_members.proofs.MemberSteps.{member_unlisted, member_disordered, member_last}
use Rattle.rule_list_members.proofs.member_holds.Goals as goal

pub returns-then-is_in_order : goal.returns-then-is_in_order
returns-then-is_in_order c = search (rules, member_unlisted, member_disordered, member_last, not-true, not-false)

pub returns-else-is_in_order : goal.returns-else-is_in_order
returns-else-is_in_order c = search (rules, member_unlisted, member_disordered, member_last, not-true, not-false)
