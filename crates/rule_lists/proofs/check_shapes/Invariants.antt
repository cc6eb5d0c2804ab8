use Rattle.rule_lists.proofs.ListSteps.{Shaping}
use Rattle.rule_lists.proofs.check_shapes.Given as goal

abbrev pub invariant-loop : goal.invariant-loop
invariant-loop l = Shaping l.sheet l.o l.initial.work l.at l.work l.end l.counter l.p
