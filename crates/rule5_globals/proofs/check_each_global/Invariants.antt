use Rattle.reader.specs.Value.{value_of}
use Rattle.sheet.specs.Decode.{global_of}
use Rattle.imports.specs.Imports.{global_faults}
use Rattle.open_sheet.specs.Ready.{sheet_words, module_of}
use Rattle.rule5_globals.specs.Globals.{no_global}
use Rattle.rule5_globals.proofs.check_each_global.Given as goal

abbrev pub ghost-check_each : goal.ghost-check_each
ghost-check_each a =
    let sheet = a.check.0.now in
    let o = a.check.1.now in
    λ p. global_faults (module_of sheet o) (value_of no_global (global_of (sheet_words sheet o) p))
