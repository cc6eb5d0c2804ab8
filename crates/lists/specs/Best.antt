-- The best member of a list.
use Rattle.std.specs.Prelude.{List, [], ◌∷◌, Bool, cond}
use Rattle.std.specs.Prelude.{Option, None, Some}

-- x stays unless y beats it
unfoldable pub winner : {A : Type 0} → (A → A → Bool) → A → Option A → A
winner beats x None = x
winner beats x (Some y) = cond (beats y x) y x

-- the first member that no other beats; none of no members
unfoldable pub best : {A : Type 0} → (A → A → Bool) → List A → Option A
best beats [] = None
best beats (x ∷ xs) = Some (winner beats x (best beats xs))
