-- The chain length on any words: the third word of a span, or 25 where they are no linked table.
use Rattle.std.specs.Prelude.{ℕ, List, [], ◌∷◌, cond, Result, Err, Ok}
use Rattle.descends.specs.Descends.{not_linked, is_linked, length_in, if_known}
use Rattle.descends.specs.declared.QueryError.{QueryError}
use Rattle.descends.specs.declared.QueryError.TheVariants.{NotLinked}

-- how many numbers the chain of a struct type has, 0 for what is none; or the words are no linked table
abbrev pub ChainLength : Type 0
ChainLength = Result ℕ QueryError

-- 25 first; a number that is no type has length 0
unfoldable pub chain_length_in : List ℕ → ℕ → ChainLength
chain_length_in ws t = cond (is_linked ws) (Ok (if_known ws t (length_in ws t))) (Err NotLinked)

-- kind and length
unfoldable pub length_numbers : ChainLength → List ℕ
length_numbers (Ok n) = 0 ∷ n ∷ []
length_numbers (Err NotLinked) = not_linked ∷ 0 ∷ []
