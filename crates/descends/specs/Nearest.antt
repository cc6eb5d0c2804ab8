-- The nearest family of two types on any words: found, none, or 25 where they are no linked table.
use Rattle.std.specs.Prelude.{ℕ, List, [], ◌∷◌, Bool, cond, ◌&&◌, ltb, Option, None, Some, Result, Err, Ok}
use Rattle.lists.specs.Lists.{from, keep}
use Rattle.lists.specs.Best.{best}
use Rattle.error.specs.declared.TypeId.{TypeId}
use Rattle.error.specs.Answer.{type_number}
use Rattle.descends.specs.Descends.{not_linked, span_count, is_linked, is_within}
use Rattle.descends.specs.Sizes.{width_in}
use Rattle.descends.specs.declared.QueryError.{QueryError}
use Rattle.descends.specs.declared.QueryError.TheVariants.{NotLinked}

-- the nearest family of two types; or there is none, or the words are no linked table
abbrev pub NearestFamily : Type 0
NearestFamily = Result (Option TypeId) QueryError

-- t and u are known, and the span of a holds both
unfoldable pub holds_both : List ℕ → ℕ → ℕ → ℕ → Bool
holds_both ws t u a = is_within ws t a && is_within ws u a

-- post minus pre of a is less than that of b
unfoldable pub is_narrower : List ℕ → ℕ → ℕ → Bool
is_narrower ws a b = ltb (width_in ws a) (width_in ws b)

-- the lowest-numbered type among those of least post minus pre whose span holds both
unfoldable pub nearest_of : List ℕ → ℕ → ℕ → Option ℕ
nearest_of ws t u = best (is_narrower ws) (keep (holds_both ws t u) (from 0 (span_count ws)))

-- as an answer
unfoldable pub family_of : Option ℕ → NearestFamily
family_of None = Ok None
family_of (Some f) = Ok (Some (type_number f))

-- 25 first
unfoldable pub nearest_in : List ℕ → ℕ → ℕ → NearestFamily
nearest_in ws t u = cond (is_linked ws) (family_of (nearest_of ws t u)) (Err NotLinked)

-- kind and family, 0 unless found
unfoldable pub nearest_numbers : NearestFamily → List ℕ
nearest_numbers (Ok (Some f)) = 0 ∷ f.0 ∷ []
nearest_numbers (Ok None) = 1 ∷ 0 ∷ []
nearest_numbers (Err NotLinked) = not_linked ∷ 0 ∷ []
