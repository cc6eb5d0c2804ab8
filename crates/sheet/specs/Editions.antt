-- What the edition of a sheet decides: which are read, and what a rule asks of it.
use Rattle.std.specs.Prelude.{ℕ, Bool, cond, eqb}
use Rattle.sheet.specs.Module.{Module}

-- sheets are of edition 1 or 2
abbrev pub newest_edition : ℕ
newest_edition = 2

-- the most types on a chain: 64 in edition 2, 256 in edition 1
unfoldable pub most_on_chain : ℕ → ℕ
most_on_chain edition = cond (eqb edition 2) 64 256

-- of a module
abbrev pub most_of : Module → ℕ
most_of m = most_on_chain m.edition

-- the names of exports are read in edition 2, and left unread in edition 1
unfoldable pub reads_export_names : ℕ → Bool
reads_export_names edition = eqb edition 2

-- the optional arguments of an import may be left out in edition 2, and not in edition 1
unfoldable pub may_leave_out : ℕ → Bool
may_leave_out edition = eqb edition 2
