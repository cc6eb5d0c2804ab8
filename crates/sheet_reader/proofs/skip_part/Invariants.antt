use Rattle.blocks.specs.Frame.{first_words}
use Rattle.reader.proofs.ListLaws.{Passes}
use Rattle.sheet_reader.proofs.skip_part.Given as goal

abbrev pub invariant-loop : goal.invariant-loop
invariant-loop g l = Passes g.past (first_words l.sheet l.n) l.at l.count l.counter l.p
