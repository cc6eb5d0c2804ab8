-- What code says of blocks: the frame that it finds, one block, and words that go on as zeros.
use Rattle.std.specs.Prelude.{ℕ, ◌*◌, List, ◌++◌, Bool, ◌&&◌, eqb, ltb, length, take, drop, replicate}
use Rattle.std.specs.Prelude.{Option, None, Some}
use Rattle.lists.specs.Lists.{all_of}
use Rattle.std.specs.Prelude.{Option}
use Rattle.std.specs.Prelude.{None, Some}
use Rattle.blocks.specs.Blocks.{block_bytes, checked, block_count, words}

unfoldable pub frame_of : Option (List ℕ) → Option ℕ
frame_of None = None
frame_of (Some ws) = Some (length ws)

-- block k is there and ends with its check word
unfoldable pub block_checked : List ℕ → ℕ → Bool
block_checked bytes k = ltb k (block_count bytes) && checked k (take block_bytes (drop (block_bytes * k) bytes))

-- the words from word n on are zero
unfoldable pub zero_from : List ℕ → ℕ → Bool
zero_from ws n = all_of (eqb 0) (drop n ws)

-- the first n words, zeros past the last block
unfoldable pub first_words : List ℕ → ℕ → List ℕ
first_words bytes n = take n (words bytes ++ replicate n 0)
