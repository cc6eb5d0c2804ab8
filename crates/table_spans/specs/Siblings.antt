-- The structs in lists by rising number: list 0 has the roots, list p + 1 the children of p.
use Rattle.std.specs.Prelude.{◌≡◌, Bool, true, List, [], ◌∷◌, ℕ, zero, suc, ◌+◌, ◌*◌, ◌≤◌, ◌<◌, length, get_or, drop}
use Rattle.lists.specs.Lists.{places_from}
use Rattle.sheet.specs.Module.{TypeDef}
use Rattle.parents.specs.Forest.{Entry, entry, entry_at}
use Rattle.spans.specs.Spans.{is_root, is_child_of}
use Rattle.open_sheet.specs.declared.Opened.{Opened}

unfoldable pub in_list : ℕ → Entry → Bool
in_list zero e = is_root e
in_list (suc p) e = is_child_of p e

-- the members of list k from number i on
unfoldable pub members_from : List TypeDef → ℕ → ℕ → List ℕ
members_from types k i = places_from i (λ d. in_list k (entry d)) (drop i types)

abbrev pub head_or : ℕ → List ℕ → ℕ
head_or n [] = n
head_or n (x ∷ l) = x

-- the first of them; the number of types if there is none
unfoldable pub first_from : List TypeDef → ℕ → ℕ → ℕ
first_from types k i = head_or (length types) (members_from types k i)

-- word 4 n + k of w says where list k begins, word 6 n + t what comes after its member t: all this of the numbers from i on
pub record Linking (types : List TypeDef) (n i : ℕ) (w : List ℕ) : Type 0 where
  pub head : (k : ℕ) → k ≤ length types → get_or w (4 * n + k) 0 ≡ first_from types k i
  pub next : (k t : ℕ) → i ≤ t → t < length types → in_list k (entry_at types t) ≡ true → get_or w (6 * n + t) 0 ≡ first_from types k (t + 1)

-- of all numbers
pub record Linked (types : List TypeDef) (o : Opened) (w : List ℕ) : Type 0 where
  pub count : o.counts.types ≡ length types
  pub few : length types < o.layout.words
  pub room : 8 * o.layout.words ≤ length w
  pub lists : Linking types o.layout.words 0 w
