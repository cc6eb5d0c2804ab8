use Rattle.reader.specs.Value.{value_of}
use Rattle.sheet.specs.Decode.{hook_of}
use Rattle.hooks.specs.Hooks.{hook_faults}
use Rattle.open_sheet.specs.Ready.{sheet_words, module_of}
use Rattle.rule8_hooks.specs.Bindings.{no_hook}
use Rattle.rule8_hooks.proofs.check_each_hook.Given as goal

abbrev pub ghost-check_each : goal.ghost-check_each
ghost-check_each a =
    let sheet = a.check.0.now in
    let o = a.check.2.now in
    λ p. hook_faults (module_of sheet o) (value_of no_hook (hook_of (sheet_words sheet o) p))
