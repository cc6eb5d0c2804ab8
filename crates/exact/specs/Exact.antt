-- A sum in two words: 10^18 times the high one, and the low one.
use Rattle.std.specs.Prelude.{ℕ, ◌+◌, ◌*◌}
use Rattle.exact.specs.declared.Total.{Total}

abbrev pub unit : ℕ
unit = 1000000000000000000

unfoldable pub value_of : Total → ℕ
value_of t = unit * t.high + t.low
