use borrow.Author.Rules.{rules}
use native.Mathlib.Omega.{arith}
use Rattle.table_spans.proofs.BlankSteps.{blank_start, blank_room, blank_next, blank_end}
use Rattle.table_spans.proofs.blank_spans.Goals as goal

pub loop-t-init : goal.loop-t-init
loop-t-init c = (omega arith, blank_start _ _)

pub store_span-requires : goal.store_span-requires
store_span-requires c = search (rules, blank_room)

pub loop-t-preserved : goal.loop-t-preserved
loop-t-preserved c = search (rules, blank_next)

pub returns : goal.returns
returns c = search (rules, blank_end)
