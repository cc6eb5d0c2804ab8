-- The test of kind 24 by a quotient.
use Prim.Native.Nat.{ℕ, ◌+◌, ◌-◌, ◌*◌, ◌/◌, ◌≤◌, ◌<◌}
use mathlib.Core.Path.{◌≡◌, sym, ap, ◌∙◌}
use mathlib.Core.Bool.{Bool, true, false, ◌&&◌}
use native.Mathlib.Omega.{arith}
use native.Mathlib.Decide.{dec_le}
use lib.Dec.{leb}
use borrow.Author.Tests.{le-leb, lt-leb}
use Rattle.load.specs.Load.{needed, fits, enough}

pub room_short : (n words : ℕ) → words < 64 → false ≡ fits n words
unfolding fits needed
room_short n words h = sym (lt-leb (64 + 8 * n) words (omega arith))

pub room_counted : (n words : ℕ) → 64 ≤ words → leb n ((words - 64) / 8) ≡ fits n words
unfolding fits needed
room_counted n words h = go (dec_le n ((words - 64) / 8))
  where
    go : Dec (n ≤ (words - 64) / 8) → leb n ((words - 64) / 8) ≡ leb (64 + 8 * n) words
    go (yes l) = le-leb n ((words - 64) / 8) l ∙ sym (le-leb (64 + 8 * n) words (omega arith))
    go (no l) = lt-leb n ((words - 64) / 8) (omega arith) ∙ sym (lt-leb (64 + 8 * n) words (omega arith))

pub both_room : (n table work : ℕ) {r x : Bool} → r ≡ true → r ≡ fits n table → x ≡ fits n work → x ≡ enough n table work
unfolding enough
both_room n table work {r} e f k = k ∙ sym (ap (λ b. b && fits n work) (sym f ∙ e))

pub table_short : (n table work : ℕ) {r : Bool} → r ≡ false → r ≡ fits n table → false ≡ enough n table work
unfolding enough
table_short n table work e f = sym (ap (λ b. b && fits n work) (sym f ∙ e))
