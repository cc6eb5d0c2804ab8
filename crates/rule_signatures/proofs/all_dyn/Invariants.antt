use Rattle.blocks.specs.Frame.{first_words}
use Rattle.rule_signatures.proofs.DynSteps.{Dyns}
use Rattle.rule_signatures.proofs.all_dyn.Given as goal

abbrev pub invariant-loop : goal.invariant-loop
invariant-loop l = Dyns (first_words l.sheet l.n) l.at l.end l.counter l.p
