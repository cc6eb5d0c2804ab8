-- What the rows of RFC 3629's grammar derive: the meaning of `well_formed`, which goes an octet at a time.
use Rattle.std.specs.Prelude.{ℕ, true, ◌≡◌, ◌↔◌}
use mathlib.Core.List.{List, [], ◌∷◌, ◌++◌, Memᴰ}
use Rattle.utf8.specs.Utf8.{Range, chars, within, well_formed}

-- the octets of one character, each within its range of the row
pub data Char : List Range → List ℕ → Type 0 where
  end : Char [] []
  octet : {r : Range} {row : List Range} {b : ℕ} {c : List ℕ} → within r b ≡ true → Char row c → Char (r ∷ row) (b ∷ c)

-- UTF8-octets = *( UTF8-char )
pub data Octets : List ℕ → Type 0 where
  none : Octets []
  char : {row : List Range} {c bs : List ℕ} → Memᴰ row chars → Char row c → Octets bs → Octets (c ++ bs)

-- well-formed is what the grammar derives
unfoldable pub ByGrammar : Type 0
ByGrammar = (bs : List ℕ) → (well_formed bs ≡ true) ↔ Octets bs
