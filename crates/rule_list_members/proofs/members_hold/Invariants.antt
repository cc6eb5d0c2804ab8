use Rattle.blocks.specs.Blocks.{words}
use Rattle.rule_list_members.proofs.MemberSteps.{Holding}
use Rattle.rule_list_members.proofs.members_hold.Given as goal

abbrev pub invariant-loop : goal.invariant-loop
invariant-loop l = Holding l.k l.strings l.n (words l.sheet) l.count l.from l.counter l.p l.late
