-- A list whose members are judged by their positions.
use Rattle.std.specs.Prelude.{ℕ, zero, suc, ◌+◌, List, [], ◌++◌}
use Rattle.error.specs.declared.LoadErrorKind.{LoadErrorKind}

-- what is broken in count members of size words each, from p on
unfoldable pub each_faults : (ℕ → List LoadErrorKind) → ℕ → ℕ → ℕ → List LoadErrorKind
each_faults faults size zero p = []
each_faults faults size (suc count) p = faults p ++ each_faults faults size count (p + size)
