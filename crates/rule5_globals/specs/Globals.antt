-- A global where none was read.
use Rattle.sheet.specs.Module.{dyn, Global}

unfoldable pub no_global : Global
no_global = record { type = dyn; init+ = 0 }
