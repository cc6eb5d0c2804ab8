-- Where the span of a type stands.
use Rattle.std.specs.Prelude.{ℕ, ◌+◌, ◌*◌, List, cond, ltb, Option, None, Some, Result, Ok, Err}
use Rattle.descends.specs.declared.QueryError.{QueryError}
use Rattle.descends.specs.declared.QueryError.TheVariants.{NotLinked}
use Rattle.descends.specs.Descends.{spans_start, span_count, is_linked}

-- none for a number that is no type, 25 where the words are no linked table
unfoldable pub span_of : List ℕ → ℕ → Result (Option ℕ) QueryError
span_of ws t = cond (is_linked ws) (Ok (cond (ltb t (span_count ws)) (Some (spans_start ws + 1 + 3 * t)) None)) (Err NotLinked)
