-- Parameters beside the value types of their signature.
use Rattle.std.specs.Prelude.{ℕ, zero, suc, ◌+◌, ◌-◌, ◌%◌, List, Bool, true, cond, not, ◌&&◌, ◌||◌, eqb, ltb, get_or}
use Rattle.sheet.specs.Module.{ValueType, basic, ref, first_ref, Module}
use Rattle.imports.specs.Params.{taken_by_reference}

-- the value type of a word
unfoldable pub value_from : ℕ → ValueType
value_from w = cond (ltb w first_ref) (basic w) (ref (w - first_ref))

-- a parameter with these flags, by reference or not
unfoldable pub reference_fits : Module → ℕ → ℕ → Bool
reference_fits m flags w = not (eqb (flags % 2) 1) || taken_by_reference m (value_from w)

-- n parameters from p on, n value types from q on
unfoldable pub references_fit : Module → List ℕ → ℕ → ℕ → ℕ → Bool
references_fit m ws zero p q = true
references_fit m ws (suc n) p q = reference_fits m (get_or ws p 0) (get_or ws q 0) && references_fit m ws n (p + 2) (q + 1)
