-- The scan for the nearest family: from the last type down to the first, the best so far.
use Rattle.std.specs.Prelude.{ℕ, ◌+◌, ◌-◌, ◌*◌, ◌≤◌, ◌<◌, ◌≡◌, List, Bool, ◌&&◌, leb, ltb, length, Option, None, Some}
use Rattle.std.specs.Bool.{then_some}
use Rattle.lists.specs.Lists.{from, keep}
use Rattle.lists.specs.Best.{best}
use Rattle.error.specs.declared.TypeId.{TypeId}
use Rattle.error.specs.Answer.{type_number}
use Rattle.descends.specs.Descends.{spans_start, span_count, pre_in, post_in}
use Rattle.descends.specs.Sizes.{width_in}
use Rattle.descends.specs.Nearest.{is_narrower}
use Rattle.query_nearest.specs.declared.Candidate.{Candidate}

-- the spans stand behind start, and low is not above high
pub record Spans (ws : List ℕ) (start low high : ℕ) : Type 0 where
  pub starts : start ≡ spans_start ws
  pub room : start + 1 + 3 * span_count ws ≤ length ws
  pub ordered : low ≤ high

-- the spans stand behind start, and both numbers are known
pub record Asked (ws : List ℕ) (start count t u : ℕ) : Type 0 where
  pub starts : start ≡ spans_start ws
  pub counts : count ≡ span_count ws
  pub room : start + 1 + 3 * count ≤ length ws
  pub first : t < count
  pub second : u < count

-- a type by its number, or none
unfoldable pub numbered : Option ℕ → Option TypeId
numbered None = None
numbered (Some a) = Some (type_number a)

-- the span of a begins at low or before, and ends after high
unfoldable pub holds : List ℕ → ℕ → ℕ → ℕ → Bool
holds ws low high a = leb (pre_in ws a) low && ltb high (post_in ws a)

-- the best among the types from a on
unfoldable pub best_from : List ℕ → ℕ → ℕ → ℕ → Option ℕ
best_from ws low high a = best (is_narrower ws) (keep (holds ws low high) (from a (span_count ws - a)))

-- its width; where there is none, no width is more
unfoldable pub least_of : List ℕ → Option ℕ → ℕ
least_of ws None = 4294967295
least_of ws (Some f) = width_in ws f

-- c is the best among the types from a on, or the count of all where there is none
pub record Scanned (ws : List ℕ) (low high a : ℕ) (c : Candidate) : Type 0 where
  pub found : best_from ws low high a ≡ then_some (ltb c.family (span_count ws)) c.family
  pub least : c.width ≡ least_of ws (best_from ws low high a)
