-- A binding where it stands.
use Rattle.std.specs.Prelude.{ℕ, ◌+◌, ◌*◌, ◌<◌, List, get_or}
use Rattle.blocks.specs.Blocks.{words}

-- the word of the binding that stands at a place of some bytes
unfoldable pub bound_word : List ℕ → ℕ → ℕ
bound_word b at = 1 + get_or (words b) (at + 1) 0 + 2 * get_or (words b) (at + 2) 0

-- a binding stands there, within n words
pub record BindingAt (b : List ℕ) (n at : ℕ) : Type 0 where
  pub within : at + 2 < n
  pub hook : get_or (words b) at 0 < 31
  pub fits : bound_word b at < 4294967296
