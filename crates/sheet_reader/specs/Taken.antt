-- What code says of a word that a reader takes.
use Rattle.std.specs.Prelude.{ℕ, Option, Some, None}
use Rattle.reader.specs.Reader.{Got, broken, got}

unfoldable pub taken_of : Got ℕ → Option (ℕ × ℕ)
taken_of broken = None
taken_of (got w p) = Some (w, p)
