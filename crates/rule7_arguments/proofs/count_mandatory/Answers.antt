use borrow.Author.Rules.{rules}
use native.Mathlib.Omega.{arith}
use Rattle.rule7_arguments.proofs.ArgumentSteps.{one_most, counting_start, counting_end, counting_next}
use Rattle.rule7_arguments.proofs.count_mandatory.Goals as goal

pub loop-i-init : goal.loop-i-init
loop-i-init c = search (rules, counting_start)

pub overflow_add-found : goal.overflow_add-found
overflow_add-found c = omega (arith, c.loop-i.invariant.room, one_most _ c.mandatory_one-found.ensures, c.loop-i-test.true)

pub loop-i-preserved : goal.loop-i-preserved
loop-i-preserved c = search (rules, counting_next)

pub returns : goal.returns
returns c = search (rules, counting_end)
