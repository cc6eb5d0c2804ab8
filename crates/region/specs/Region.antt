-- Regions of one list, and what a function leaves as it was.
use Rattle.std.specs.Prelude.{◌≡◌, List, ℕ, ◌+◌, ◌≤◌, ◌<◌, length, get_or, take, drop}

-- the n words of a list from a place on
unfoldable pub part : ℕ → ℕ → List ℕ → List ℕ
part at n w = take n (drop at w)

-- a region as a function of the place in it
abbrev pub word_at : List ℕ → ℕ → ℕ → ℕ
word_at w at p = get_or w (at + p) 0

-- k is not in the places from a up to e
abbrev pub Off : ℕ → ℕ → ℕ → Type 0
Off a e k = a ≤ k → k < e → ⊥

-- the places from a up to e, and from b up to f, have none in common
abbrev pub Apart : ℕ → ℕ → ℕ → ℕ → Type 0
Apart a e b f = (k : ℕ) → a ≤ k → k < e → Off b f k

-- v is w but for the places where P fails
pub record Frame (P : ℕ → Type 0) (w v : List ℕ) : Type 0 where
  pub len : length v ≡ length w
  pub same : (k : ℕ) → P k → get_or v k 0 ≡ get_or w k 0
