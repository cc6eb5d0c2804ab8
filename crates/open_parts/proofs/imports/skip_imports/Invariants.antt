use Rattle.blocks.specs.Frame.{first_words}
use Rattle.reader.specs.Step.{step_of}
use Rattle.sheet.specs.Decode.{import_of}
use Rattle.open_parts.proofs.imports.skip_imports.Given as goal

abbrev pub ghost-skip_part : goal.ghost-skip_part
ghost-skip_part a = λ p. step_of (import_of (first_words a.sheet.now a.n) p)
