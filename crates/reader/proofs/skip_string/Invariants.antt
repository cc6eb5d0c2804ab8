use Rattle.reader.proofs.TextReading.{Texts}
use Rattle.reader.proofs.skip_string.Given as goal

abbrev pub invariant-loop : goal.invariant-loop
invariant-loop l = Texts l.bytes l.n l.at l.length l.counter l.p l.s
