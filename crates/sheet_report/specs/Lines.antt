-- The lines that one pass over a table writes, on any words.
use Rattle.std.specs.Prelude.{ℕ, ◌≡◌, List, [], ◌∷◌, cond, ltb, length}
use Rattle.std.specs.Result.{result_unwrap_or}
use Rattle.lists.specs.Lists.{concat_map, from, sum}
use Rattle.writing.specs.Writing.{written}
use Rattle.descends.specs.Sizes.{size_in}
use Rattle.sheet_report.specs.declared.FamilyLines.{FamilyLines}

-- 0 where the words are no linked table
unfoldable pub size_word : List ℕ → ℕ → ℕ
size_word ws t = result_unwrap_or (size_in ws t) 0

-- a number whose size is 0 has no line
unfoldable pub line_in : List ℕ → ℕ → List ℕ
line_in ws t = cond (ltb 0 (size_word ws t)) (t ∷ size_word ws t ∷ []) []

-- the lines of the numbers below n
unfoldable pub lines_in : List ℕ → ℕ → List ℕ
lines_in ws n = concat_map (line_in ws) (from 0 n)

-- they are written over w: v now, so many words, and their sizes added up
pub record LinesWritten (ws w : List ℕ) (n : ℕ) (v : List ℕ) (f : FamilyLines) : Type 0 where
  pub done : v ≡ written w 0 (lines_in ws n)
  pub words : f.words ≡ length (lines_in ws n)
  pub sizes : f.sizes ≡ sum (size_word ws) (from 0 n)
