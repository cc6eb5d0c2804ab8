-- What a rule finds of all that is broken, and what a group of rules finds: the first.
use Rattle.std.specs.Prelude.{⊤, Result, List, [], ◌∷◌}
use Rattle.error.specs.declared.LoadErrorKind.{LoadErrorKind}
use Rattle.error.specs.declared.LoadError.{LoadError}
use Rattle.std.specs.Prelude.{Err, Ok}
use Rattle.std.specs.Prelude.{Err, Ok}

-- what a rule finds: that it holds, or how it is broken first
abbrev pub Verdict : Type 0
Verdict = Result ⊤ LoadErrorKind

-- what a group of rules finds: that they hold, or what is broken first, and its place
abbrev pub Judged : Type 0
Judged = Result ⊤ LoadError

unfoldable pub verdict_of : List LoadErrorKind → Verdict
verdict_of [] = (Ok tt)
verdict_of (k ∷ ks) = Err k

unfoldable pub judged_of : List LoadError → Judged
judged_of [] = (Ok tt)
judged_of (e ∷ es) = Err e

-- a verdict, and its place
unfoldable pub placed : (LoadErrorKind → LoadError) → Verdict → Judged
placed place (Ok tt) = (Ok tt)
placed place (Err k) = Err (place k)
