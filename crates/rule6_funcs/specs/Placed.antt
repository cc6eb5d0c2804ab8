-- Rule 6 with the place of each fault.
use Rattle.std.specs.Prelude.{ℕ, List, map}
use Rattle.error.specs.declared.LoadError.{LoadError}
use Rattle.error.specs.Answer.{in_function}
use Rattle.sheet.specs.Module.{Func, Module}
use Rattle.funcs.specs.Funcs.{func_faults}

-- function i's, with their place
unfoldable pub record_faults : Module → ℕ → Func → List LoadError
record_faults m i f = map (in_function i) (func_faults m f)
