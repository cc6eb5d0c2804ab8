use borrow.Author.Rules.{rules}
use Rattle.rule_list_members.proofs.MemberSteps.{order_late, order_free}
use Rattle.rule_list_members.proofs.is_in_order.Goals as goal

pub returns : goal.returns
returns c = search (rules, order_late, order_free)
