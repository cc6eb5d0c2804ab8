use borrow.Author.Rules.{rules}
use Rattle.rule_list_members.proofs.MemberSteps.{late_before, late_here}
use Rattle.rule_list_members.proofs.late_after.Goals as goal

pub returns-then-late : goal.returns-then-late
returns-then-late c = search (rules, late_before, late_here)

pub returns-else-late : goal.returns-else-late
returns-else-late c = search (rules, late_before, late_here)
