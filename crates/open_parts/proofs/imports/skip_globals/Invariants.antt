use Rattle.blocks.specs.Frame.{first_words}
use Rattle.reader.specs.Step.{step_of}
use Rattle.sheet.specs.Decode.{global_of}
use Rattle.open_parts.proofs.imports.skip_globals.Given as goal

abbrev pub ghost-skip_part : goal.ghost-skip_part
ghost-skip_part a = λ p. step_of (global_of (first_words a.sheet.now a.n) p)
