-- A count of records times their size fits 64 bits.
use Prim.Native.Nat.{ℕ, ◌*◌, ◌≤◌, ◌<◌, ◌^◌}
use native.Mathlib.Nat.{mul-le-mul_left}
use native.Mathlib.Omega.{arith}
use mir.Syntax.{w64}
use mir.Val.{Fits}

pub product_fits : (a b : ℕ) → a < 2 ^ 32 → b < 2 ^ 8 → Fits w64 (a * b)
product_fits a b h k =
    let l : a * b ≤ a * 256 = mul-le-mul_left a (omega arith) in
    record { fits = omega arith }
