use Rattle.std.proofs.Common.{◌-◌}
use Rattle.blocks.specs.Frame.{first_words}
use Rattle.family_sheets.specs.Declared.{Counts}
use Rattle.family_sheets.proofs.count_listed.Given as goal

abbrev pub invariant-loop : goal.invariant-loop
invariant-loop l = Counts (first_words l.sheet l.n) l.at (l.types - l.counter) l.p l.count
