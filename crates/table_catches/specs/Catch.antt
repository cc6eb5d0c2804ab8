-- The handler of each position, as code reads handlers: four words each from a place of the sheet on.
use Rattle.std.specs.Prelude.{Bool, cond, ◌&&◌, List, map, ℕ, zero, suc, ◌+◌, ◌*◌, leb, ltb, get_or}
use Rattle.lists.specs.Lists.{from}
use Rattle.blocks.specs.Blocks.{words}
use Rattle.table.specs.Records.{no_handler}

-- position p is within handler k: the words at + 4 k, its start, and the next, its end
abbrev pub within : List ℕ → ℕ → ℕ → ℕ → Bool
within b at p k = leb (get_or (words b) (at + 4 * k) 0) p && ltb p (get_or (words b) (at + 4 * k + 1) 0)

-- the least of m numbers from k on that passes; none where none does
abbrev pub lowest : (ℕ → Bool) → ℕ → ℕ → ℕ
lowest f k zero = no_handler
lowest f k (suc m) = cond (f k) k (lowest f (suc k) m)

abbrev pub catch_at : List ℕ → ℕ → ℕ → ℕ → ℕ
catch_at b at h p = lowest (within b at p) 0 h

-- the handler of each of len positions
unfoldable pub catches : List ℕ → ℕ → ℕ → ℕ → List ℕ
catches b at h len = map (catch_at b at h) (from 0 len)
