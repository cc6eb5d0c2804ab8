-- The names of members, each once, by marks.
use Rattle.std.specs.Prelude.{ℕ, ◌+◌, List, [], ◌∷◌, ◌++◌, Bool, true, false, not, ◌&&◌, eqb, get_or, set}
use Rattle.lists.specs.Lists.{distinct}
use Rattle.rule_list_members.specs.declared.ListKind.{ListKind}
use Rattle.error.specs.declared.StrId.{StrId}
use Rattle.std.specs.Prelude.{Option, None, Some}
use Rattle.rule_list_members.specs.Members.{name_of, name_in, members_hold}

-- ── names ──

-- a name as a list
unfoldable pub named : Option StrId → List ℕ
named None = []
named (Some s) = s.0 ∷ []

-- the names that are read
unfoldable pub names_of : ListKind → List (ℕ × ℕ) → List ℕ
names_of k [] = []
names_of k (x ∷ xs) = named (name_of k x.0 x.1) ++ names_of k xs

unfoldable pub names_distinct : ListKind → List (ℕ × ℕ) → Bool
names_distinct k xs = distinct (names_of k xs)

unfoldable pub valid_members : ListKind → ℕ → List (ℕ × ℕ) → Bool
valid_members k strings xs = members_hold k strings false xs && names_distinct k xs

-- ── marks of names ──

-- v is written to the name's mark, the first mark's place given
unfoldable pub put_mark : ℕ → ℕ → List ℕ → Option StrId → List ℕ
put_mark v base w None = w
put_mark v base w (Some s) = set w (base + s.0) v

-- the name's mark is not v
unfoldable pub is_new : ℕ → ℕ → List ℕ → Option StrId → Bool
is_new v base w None = true
is_new v base w (Some s) = not (eqb (get_or w (base + s.0) 0) v)

-- v is written to the mark of each name, in order
unfoldable pub put_marks : ListKind → ℕ → ℕ → List ℕ → List (ℕ × ℕ) → List ℕ
put_marks k v base w [] = w
put_marks k v base w (x ∷ xs) = put_marks k v base (put_mark v base w (name_of k x.0 x.1)) xs

-- no name's mark was v just before
unfoldable pub are_new : ListKind → ℕ → ℕ → List ℕ → List (ℕ × ℕ) → Bool
are_new k v base w [] = true
are_new k v base w (x ∷ xs) = is_new v base w (name_of k x.0 x.1) && are_new k v base (put_mark v base w (name_of k x.0 x.1)) xs

-- all names are strings
unfoldable pub names_in : ListKind → ℕ → List (ℕ × ℕ) → Bool
names_in k strings [] = true
names_in k strings (x ∷ xs) = name_in strings (name_of k x.0 x.1) && names_in k strings xs
