-- The fewest arguments of each import: counted in its list, and kept in lent words.
use Rattle.std.specs.Prelude.{ℕ, ◌+◌, ◌*◌, ◌/◌, ◌%◌, ◌<◌, ◌≡◌, List, [], ◌∷◌, cond, eqb}
use Rattle.code.specs.Callee.{import_at}
use Rattle.code.specs.Code.{fewest_arguments}
use Rattle.region.specs.Region.{word_at}
use Rattle.open_layout.specs.Opened.{module_in}
use Rattle.open_sheet.specs.declared.Opened.{Opened}
use Rattle.open_sheet.specs.Ready.{Captured}

-- ── in a list ──

-- 1 for the flags of a mandatory parameter, 0 for those of an optional one
unfoldable pub mandatory_one : ℕ → ℕ
mandatory_one flags = cond (eqb (flags / 2 % 2) 1) 0 1

-- how many of some parameters are mandatory: flags and name + 1 each
unfoldable pub mandatory_in : List (ℕ × ℕ) → ℕ
mandatory_in [] = 0
mandatory_in (x ∷ xs) = mandatory_one x.0 + mandatory_in xs

-- ── in lent words ──

-- from here on, after the captures' counts
abbrev pub fewest_at : Opened → ℕ
fewest_at o = 4 * o.layout.words + o.counts.funcs

-- a word for each import
pub record Fewest (ws w : List ℕ) (o : Opened) : Type 0 where
  pub counts : (j : ℕ) → j < o.counts.imports → word_at w (fewest_at o) j ≡ fewest_arguments (module_in ws) (import_at (module_in ws) j)

-- all that is counted before code is judged: the captures of functions, the fewest arguments of imports
pub record Tallied (ws w : List ℕ) (o : Opened) : Type 0 where
  pub captured : Captured ws w o
  pub fewest : Fewest ws w o
