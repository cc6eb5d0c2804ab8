-- What code for hooks says of a binding.
use Rattle.std.specs.Prelude.{ℕ, List, Bool, ◌&&◌, eqb, length}
use Rattle.lists.specs.Lists.{all_of}
use Rattle.sheet.specs.Module.{ValueType, is_dyn, Hook, Module}
use Rattle.imports.specs.Params.{sig_params, sig_results}
use Rattle.code.specs.Callee.{func_at, import_at, no_captures}
use Rattle.hooks.specs.Hooks.{hook_shape, hook_fits}

-- where none was read
unfoldable pub no_hook : Hook
no_hook = record { hook = 0; kind = 0; index = 0 }

-- so many, all dyn
unfoldable pub params_fit : ℕ → List ValueType → Bool
params_fit n ps = eqb (length ps) n && all_of is_dyn ps

-- function f, import i may be bound to hook h
unfoldable pub function_fits : Module → ℕ → ℕ → Bool
function_fits m h f = no_captures (func_at m f) && hook_fits (hook_shape h) (sig_params m (func_at m f).sig) (sig_results m (func_at m f).sig)

unfoldable pub import_fits : Module → ℕ → ℕ → Bool
import_fits m h i = hook_fits (hook_shape h) (sig_params m (import_at m i).sig) (sig_results m (import_at m i).sig)
