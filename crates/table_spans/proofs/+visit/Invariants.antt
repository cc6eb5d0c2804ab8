use Rattle.std.proofs.Common.{◌-◌}
use Rattle.blocks.specs.Frame.{first_words}
use Rattle.open_layout.specs.Opened.{module_in}
use Rattle.table_spans.specs.Walked.{Walking}
use Rattle.table_spans.proofs.+visit.Given as goal

-- the steps that are left
abbrev pub decreases-visit : goal.decreases-visit
decreases-visit l = l.left

abbrev pub invariant-loop-t : goal.invariant-loop-t
invariant-loop-t l =
    Walking l.most (module_in (first_words l.sheet l.o.layout.words)).types l.o l.work l.at l.list l.left l.clock l.initial.table l.table l.t l.now

abbrev pub decreases-loop-t : goal.decreases-loop-t
decreases-loop-t l = l.o.counts.types - l.t
