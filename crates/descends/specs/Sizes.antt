-- The size of a family on any words: post minus pre, or 25 where they are no linked table.
use Rattle.std.specs.Prelude.{ℕ, ◌-◌, List, [], ◌∷◌, cond, Result, Err, Ok}
use Rattle.descends.specs.Descends.{not_linked, is_linked, pre_in, post_in, if_known}
use Rattle.descends.specs.declared.QueryError.{QueryError}
use Rattle.descends.specs.declared.QueryError.TheVariants.{NotLinked}

-- how many types descend from one, itself included; or the words are no linked table
abbrev pub FamilySize : Type 0
FamilySize = Result ℕ QueryError

-- post minus pre, 0 where post is below pre
unfoldable pub width_in : List ℕ → ℕ → ℕ
width_in ws a = post_in ws a - pre_in ws a

-- 25 first; a number that is no type has size 0
unfoldable pub size_in : List ℕ → ℕ → FamilySize
size_in ws a = cond (is_linked ws) (Ok (if_known ws a (width_in ws a))) (Err NotLinked)

-- kind and size
unfoldable pub size_numbers : FamilySize → List ℕ
size_numbers (Ok n) = 0 ∷ n ∷ []
size_numbers (Err NotLinked) = not_linked ∷ 0 ∷ []
