-- A list that a loop passes, whose count is a word that was taken.
use Rattle.std.specs.Prelude.{ℕ, zero, ◌-◌, ◌≡◌, refl, List, Option, Some, None}
use Rattle.std.proofs.Common.{arith}
use Rattle.reader.specs.Reader.{word}
use Rattle.reader.specs.Step.{list_past}
use Rattle.reader.proofs.ListLaws.{Passes}
use Rattle.sheet_reader.specs.Taken.{taken_of}
use Rattle.sheet_reader.specs.TakenLaws.{word_taken, none_taken}

module _ (past : ℕ → Option ℕ) (ws : List ℕ) (at : ℕ) {r : Option (ℕ × ℕ)} where
  pub passes_taken : (w q : ℕ) → r ≡ Some (w, q) → r ≡ taken_of (word ws at) → Passes past ws at w 0 q
  unfolding list_past
  passes_taken w q e k = let z : w - 0 ≡ w = omega arith in record { same = rw (word_taken (word ws at) e k, z) refl }

  pub none_passed : r ≡ None → r ≡ taken_of (word ws at) → None ≡ list_past past ws at
  unfolding list_past
  none_passed e k = rw (none_taken (word ws at) e k)
