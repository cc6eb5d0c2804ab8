-- The module that a sheet's words hold, for code that runs once the layout is known.
use Rattle.std.specs.Prelude.{List, ℕ}
use Rattle.reader.specs.Value.{value_of}
use Rattle.sheet.specs.Module.{Module, no_module}
use Rattle.sheet.specs.Decode.{module_of}

unfoldable pub module_in : List ℕ → Module
module_in ws = value_of no_module (module_of ws 2)
