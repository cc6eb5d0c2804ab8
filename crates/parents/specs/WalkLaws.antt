-- A walk by what is next to its first number: nothing, or one number.
use Rattle.std.specs.Prelude.{ℕ, suc, ◌≡◌, List, [], ◌∷◌}
use Rattle.std.proofs.Common.{append-nil}
use Rattle.parents.specs.Forest.{walk}

pub walk_stop : (next : ℕ → List ℕ) (f t : ℕ) → next t ≡ [] → walk next (suc f) t ≡ t ∷ []
unfolding walk
walk_stop next f t h = rw h

pub walk_up : (next : ℕ → List ℕ) (f t p : ℕ) → next t ≡ p ∷ [] → walk next (suc f) t ≡ t ∷ walk next f p
unfolding walk
walk_up next f t p h = rw (h, append-nil)
