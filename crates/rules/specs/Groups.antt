-- The rules in three groups, and what code that runs them leaves in work.
use Rattle.std.specs.Prelude.{ℕ, ◌*◌, ◌<◌, List, ◌++◌}
use Rattle.error.specs.declared.LoadError.{LoadError}
use Rattle.sheet.specs.Module.{Module}
use Rattle.host.specs.Host.{HostFn}
use Rattle.types.specs.Types.{types_faults}
use Rattle.sheet.specs.Editions.{most_of}
use Rattle.parents.specs.Parents.{parents_faults}
use Rattle.consts.specs.Consts.{most_deep, consts_faults}
use Rattle.imports.specs.Imports.{imports_faults, globals_faults}
use Rattle.funcs.specs.Funcs.{funcs_faults}
use Rattle.code.specs.Code.{codes_faults}
use Rattle.hooks.specs.Hooks.{hooks_faults, start_faults, exports_faults}
use Rattle.region.specs.Region.{Off, Frame}
use Rattle.open_sheet.specs.declared.Opened.{Opened}

-- types, parents, constants
unfoldable pub front_faults : Module → List LoadError
front_faults m = types_faults m ++ parents_faults (most_of m) m ++ consts_faults most_deep m

-- imports, globals, functions' records
unfoldable pub record_faults : List HostFn → Module → List LoadError
record_faults hosts m = imports_faults hosts m ++ globals_faults m ++ funcs_faults m

-- hooks, start, exports
unfoldable pub end_faults : Module → List LoadError
end_faults m = hooks_faults m ++ start_faults m ++ exports_faults m

-- code, and what comes after it
unfoldable pub body_faults : Module → List LoadError
body_faults m = codes_faults m ++ end_faults m

-- v is w but for what is counted before code is judged, from word 4 * words on, and the words from 6 * words on
unfoldable pub LinksKept : Opened → List ℕ → List ℕ → Type 0
LinksKept o w v = Frame (λ k. Off (4 * o.layout.words) (5 * o.layout.words) k × (k < 6 * o.layout.words)) w v
