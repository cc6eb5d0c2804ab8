use Rattle.blocks.specs.Frame.{first_words}
use Rattle.reader.proofs.ListLaws.{Passes}
use Rattle.reader.proofs.skip_list.Given as goal

abbrev pub invariant-loop : goal.invariant-loop
invariant-loop g l = Passes g.past (first_words l.bytes l.n) l.at l.end l.counter l.p
