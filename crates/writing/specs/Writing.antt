-- Words written into a lent slice from a place on.
use Rattle.std.specs.Prelude.{◌≡◌, List, ℕ, ◌+◌, length, take}
use Rattle.std.proofs.Math.Seq.{paste}
use Rattle.lists.specs.Lists.{concat_map}

-- w with xs written over it from place at on
unfoldable pub written : List ℕ → ℕ → List ℕ → List ℕ
written w at xs = paste w at xs (length xs)

-- the words of a list's members, one after the other
unfoldable pub words_of : {A : Type 0} → (A → List ℕ) → List A → List ℕ
words_of enc xs = concat_map enc xs

-- the first i members of xs are written into w from place at on: v now, and p is the next place
pub record Writes {A : Type 0} (enc : A → List ℕ) (xs : List A) (w : List ℕ) (at i : ℕ) (v : List ℕ) (p : ℕ) : Type 0 where
  pub done : v ≡ written w at (words_of enc (take i xs))
  pub end : p ≡ at + length (words_of enc (take i xs))
