use Rattle.blocks.specs.Blocks.{words}
use Rattle.rule7_arguments.proofs.ArgumentSteps.{Counting}
use Rattle.rule7_arguments.proofs.count_mandatory.Given as goal

abbrev pub invariant-loop-i : goal.invariant-loop-i
invariant-loop-i l = Counting (words l.sheet) l.n l.count l.from l.i l.found
