use borrow.Author.Rules.{rules}
use native.Mathlib.Omega.{arith}
use Rattle.reader.specs.ValueLaws.{list_within}
use Rattle.rule_signatures.proofs.DynSteps.{dyns_start, dyns_end, dyns_within, dyns_next, dyns_stop}
use Rattle.rule_signatures.proofs.all_dyn.Goals as goal

pub overflow_add-p : goal.overflow_add-p
overflow_add-p c = omega (arith, list_within)

pub loop-init : goal.loop-init
loop-init c = search (rules, dyns_start, dyns_end, dyns_next, dyns_stop)

pub returns-then-word-ne12 : goal.returns-then-word-ne12
returns-then-word-ne12 c = search (rules, dyns_start, dyns_end, dyns_next, dyns_stop)

pub overflow_add-p-in-loop : goal.overflow_add-p-in-loop
overflow_add-p-in-loop c = omega (arith, dyns_within _ _ _ _ _ _ c.loop.invariant c.loop-test.true)

pub loop-preserved : goal.loop-preserved
loop-preserved c = search (rules, dyns_start, dyns_end, dyns_next, dyns_stop)

pub returns : goal.returns
returns c = search (rules, dyns_start, dyns_end, dyns_next, dyns_stop)
