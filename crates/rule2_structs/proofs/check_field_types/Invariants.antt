use Prim.Native.Nat.{◌+◌}
use Rattle.reader.specs.Value.{value_of}
use Rattle.sheet.specs.Module.{dyn}
use Rattle.sheet.specs.Decode.{value_type}
use Rattle.open_sheet.specs.Ready.{sheet_words, module_of}
use Rattle.types.specs.Types.{value_faults}
use Rattle.rule2_structs.proofs.check_field_types.Given as goal

abbrev pub ghost-check_each : goal.ghost-check_each
ghost-check_each a =
    let sheet = a.check.0.now in
    let o = a.check.1.now in
    λ p. value_faults (module_of sheet o) (value_of dyn (value_type (sheet_words sheet o) (p + 1)))
