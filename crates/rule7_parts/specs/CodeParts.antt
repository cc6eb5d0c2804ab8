-- Rule 7 before the instructions, in parts.
use Rattle.std.specs.Prelude.{ℕ, List, [], ◌++◌, map}
use Rattle.lists.specs.Lists.{concat_map}
use Rattle.error.specs.declared.LoadErrorKind.{LoadErrorKind}
use Rattle.error.specs.declared.LoadError.{LoadError}
use Rattle.error.specs.Answer.{in_function}
use Rattle.sheet.specs.Module.{Handler, Switch, Func}
use Rattle.code.specs.Code.{handler_faults, table_faults, last_faults}

unfoldable pub no_handler : Handler
no_handler = record { start = 0; end = 0; target = 0; catch = 0 }

unfoldable pub no_switch : Switch
no_switch = record { targets = []; default = 0 }

-- ── the faults of a function, part by part ──

unfoldable pub handlers_faults : Func → List LoadErrorKind
handlers_faults f = concat_map (handler_faults f) f.handlers

unfoldable pub tables_faults : Func → List LoadErrorKind
tables_faults f = concat_map (table_faults f) f.tables

-- before the instructions: the last one, handlers, tables
unfoldable pub parts_faults : ℕ → Func → List LoadError
parts_faults n f = last_faults n f ++ map (in_function n) (handlers_faults f) ++ map (in_function n) (tables_faults f)
