-- The parents of all types as words side by side, and the numbers met through such words.
use Rattle.std.specs.Prelude.{ℕ, ◌*◌, List, map, get_or}
use Rattle.sheet.specs.Module.{TypeDef}
use Rattle.region.specs.Region.{part}
use Rattle.open_sheet.specs.declared.Opened.{Opened}
use Rattle.parents.specs.Forest.{struct_entry, parents, walk}
use Rattle.rule3_parents.specs.Child.{parent_word}

-- the parent + 1 of each type; 0 for none, and of what is no struct
unfoldable pub parent_words : List TypeDef → List ℕ
parent_words types = map parent_word types

-- the free words, one a type
unfoldable pub laid_words : Opened → List ℕ → List ℕ
laid_words o w = part (5 * o.layout.words) o.counts.types w

-- the parent that such words give to x: none or one
unfoldable pub parents_in : List ℕ → ℕ → List ℕ
parents_in ps x = parents (struct_entry (get_or ps x 0))

-- the numbers met from t up through such words, at most f
unfoldable pub chain_in : List ℕ → ℕ → ℕ → List ℕ
chain_in ps f t = walk (parents_in ps) f t
