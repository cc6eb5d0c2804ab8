use Rattle.reader.proofs.TextReading.{Ends}
use Rattle.reader.proofs.ends_text.Given as goal

abbrev pub invariant-loop : goal.invariant-loop
invariant-loop l = Ends l.initial.t l.w l.r l.t l.v l.counter
