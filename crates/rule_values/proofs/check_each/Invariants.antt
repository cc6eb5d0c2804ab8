use Rattle.law_judging.proofs.EachLaws.{Goes}
use Rattle.rule_values.proofs.check_each.Given as goal

abbrev pub invariant-loop-i : goal.invariant-loop-i
invariant-loop-i g l = Goes g.faults l.size l.count l.from l.i
