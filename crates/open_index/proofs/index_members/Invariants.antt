use Rattle.std.proofs.Common.{◌-◌}
use Rattle.blocks.specs.Frame.{first_words}
use Rattle.open_index.proofs.Indexing.{Indexes}
use Rattle.open_index.proofs.index_members.Given as goal

abbrev pub invariant-loop-i : goal.invariant-loop-i
invariant-loop-i g l = Indexes g.part (first_words l.sheet l.n) l.at l.initial.work l.base l.work (l.end - l.i) l.p l.i
