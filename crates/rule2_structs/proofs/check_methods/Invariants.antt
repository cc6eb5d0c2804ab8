use Rattle.reader.specs.Value.{value_of}
use Rattle.sheet.specs.Decode.{method_of}
use Rattle.open_sheet.specs.Ready.{sheet_words, module_of}
use Rattle.types.specs.Types.{method_faults}
use Rattle.rule2_structs.specs.Parts.{no_method}
use Rattle.rule2_structs.proofs.check_methods.Given as goal

abbrev pub ghost-check_each : goal.ghost-check_each
ghost-check_each a =
    let sheet = a.check.0.now in
    let o = a.check.1.now in
    λ p. method_faults (module_of sheet o) (value_of no_method (method_of (sheet_words sheet o) p))
