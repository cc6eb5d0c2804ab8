use Prim.Native.Nat.{◌-◌}
use Rattle.rule3_parents.proofs.ChainSteps.{Meets}
use Rattle.rule3_parents.proofs.chain_length.Given as goal

abbrev pub invariant-loop-met : goal.invariant-loop-met
invariant-loop-met l = Meets l.parents l.left l.initial.p l.p l.met

abbrev pub decreases-loop-met : goal.decreases-loop-met
decreases-loop-met l = l.left - l.met
