-- Links to the next free position: N q is q where q is free, and else a later position, with no free one before it.
use Rattle.std.specs.Prelude.{◌≡◌, ℕ, ◌≤◌, ◌<◌}

pub record Links (N : ℕ → ℕ) (len : ℕ) : Type 0 where
  pub up : (q : ℕ) → q ≤ len → q ≤ N q
  pub top : (q : ℕ) → q ≤ len → N q ≤ len
  pub over : (p q : ℕ) → p ≤ len → p ≤ q → q < N p → q < N q

-- the same positions are free
pub record Alike (N M : ℕ → ℕ) (len : ℕ) : Type 0 where
  pub busy : (q : ℕ) → q ≤ len → q < N q → q < M q
  pub back : (q : ℕ) → q ≤ len → q < M q → q < N q

-- r is the first free position from p on
pub record Found (N M : ℕ → ℕ) (len p r : ℕ) : Type 0 where
  pub links : Links M len
  pub alike : Alike N M len
  pub from : p ≤ r
  pub to : r ≤ len
  pub free : M r ≡ r
  pub passed : (q : ℕ) → p ≤ q → q < r → q < M q
