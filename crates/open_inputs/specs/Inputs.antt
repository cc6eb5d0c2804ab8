-- What code says of the inputs before any rule: 1 before 23 before 24.
use Rattle.std.specs.Prelude.{ℕ, cond, Option, None, Some, Result, Err, Ok}
use Rattle.error.specs.declared.LoadErrorKind.{LoadErrorKind}
use Rattle.error.specs.declared.LoadErrorKind.TheVariants.{Decode, BadHostList, ShortSlice}
use Rattle.open_layout.specs.declared.Layout.{Layout}
use Rattle.load.specs.Load.{enough}

unfoldable pub with_hosts : Layout → Option ℕ → ℕ → ℕ → Result (Layout × ℕ) LoadErrorKind
with_hosts l None table work = Err BadHostList
with_hosts l (Some n) table work = cond (enough l.words table work) (Ok (l, n)) (Err ShortSlice)

unfoldable pub inputs_of : Option Layout → Option ℕ → ℕ → ℕ → Result (Layout × ℕ) LoadErrorKind
inputs_of None hosts table work = Err Decode
inputs_of (Some l) hosts table work = with_hosts l hosts table work
