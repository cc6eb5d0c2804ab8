-- Parameters and arguments as code reads them: two words each.
use Rattle.std.specs.Prelude.{ℕ, zero, suc, ◌+◌, ◌-◌, ◌/◌, ◌%◌, List, [], ◌∷◌, Bool, true, cond, not, ◌&&◌, ◌||◌, eqb, ltb, get_or}
use Rattle.error.specs.declared.StrId.{StrId}
use Rattle.error.specs.Answer.{string_number}
use Rattle.rule_list_members.specs.declared.ListKind.{ListKind}
use Rattle.rule_list_members.specs.declared.ListKind.TheVariants.{Params, Args}
use Rattle.std.specs.Prelude.{Option, None, Some}

-- n members from p on
unfoldable pub pairs_at : List ℕ → ℕ → ℕ → List (ℕ × ℕ)
pairs_at ws zero p = []
pairs_at ws (suc n) p = (get_or ws p 0, get_or ws (p + 1) 0) ∷ pairs_at ws n (p + 2)

-- ── one member ──

-- flags below 4, kinds below 3
unfoldable pub is_listed : ListKind → ℕ → Bool
is_listed Params w = ltb w 4
is_listed Args w = ltb w 3

-- optional, named: what stands last
unfoldable pub is_late : ListKind → ℕ → Bool
is_late Params w = eqb (w / 2 % 2) 1
is_late Args w = eqb w 1

-- mandatory, positional: what stands after none of those
unfoldable pub is_early : ListKind → ℕ → Bool
is_early Params w = not (eqb (w / 2 % 2) 1)
is_early Args w = eqb w 0

-- late: one of the former was before it
unfoldable pub is_in_order : ListKind → Bool → ℕ → Bool
is_in_order k late w = not (late && is_early k w)

-- one of the former is at this member or before it
unfoldable pub late_after : ListKind → Bool → ℕ → Bool
late_after k late w = late || is_late k w

-- the name that is read
unfoldable pub name_of : ListKind → ℕ → ℕ → Option StrId
name_of Params first second = cond (eqb second 0) None (Some (string_number (second - 1)))
name_of Args first second = cond (eqb first 1) (Some (string_number second)) None

-- the name is one of so many strings
unfoldable pub name_in : ℕ → Option StrId → Bool
name_in strings None = true
name_in strings (Some s) = ltb s.0 strings

-- what is wanted of a member
unfoldable pub member_holds : ListKind → ℕ → Bool → ℕ → ℕ → Bool
member_holds k strings late first second = is_listed k first && (is_in_order k late first && name_in strings (name_of k first second))

-- ── all members ──

unfoldable pub members_hold : ListKind → ℕ → Bool → List (ℕ × ℕ) → Bool
members_hold k strings late [] = true
members_hold k strings late (x ∷ xs) = member_holds k strings late x.0 x.1 && members_hold k strings (late_after k late x.0) xs
