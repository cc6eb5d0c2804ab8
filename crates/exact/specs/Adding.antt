-- Room in a sum, and one number more.
use Rattle.std.specs.Prelude.{ℕ, ◌+◌, ◌<◌, ◌≡◌}
use Rattle.exact.specs.declared.Total.{Total}
use Rattle.exact.specs.Exact.{unit, value_of}

-- n numbers more, each below 10^18, have room
pub record Spare (t : Total) (n : ℕ) : Type 0 where
  pub low : t.low < unit
  pub high : t.high + n < 18446744073709551616

-- r is t and x more, and has room for one number less
pub record Added (t : Total) (x : ℕ) (r : Total) : Type 0 where
  pub sum : value_of r ≡ value_of t + x
  pub spare : (n : ℕ) → Spare t (n + 1) → Spare r n
