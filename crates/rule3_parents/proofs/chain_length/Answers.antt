use borrow.Author.Rules.{rules}
use Rattle.rule3_parents.proofs.ChainSteps.{meets_start, meets_number, meets_end, meets_absent, meets_root, meets_next}
use Rattle.rule3_parents.proofs.chain_length.Goals as goal

pub loop-met-init : goal.loop-met-init
loop-met-init c = search (rules, meets_start)

pub returns-then-parents-p : goal.returns-then-parents-p
returns-then-parents-p c = search (rules, meets_absent)

pub overflow_sub-p : goal.overflow_sub-p
overflow_sub-p c = search (rules, meets_number)

pub at-p-requires : goal.at-p-requires
at-p-requires c = search (rules, meets_number)

pub returns-then-p-eq0 : goal.returns-then-p-eq0
returns-then-p-eq0 c = search (rules, meets_root)

pub loop-met-preserved : goal.loop-met-preserved
loop-met-preserved c = search (rules, meets_next)

pub returns : goal.returns
returns c = search (rules, meets_end)
