use Rattle.blocks.specs.Frame.{first_words}
use Rattle.reader.specs.Step.{step_of}
use Rattle.sheet.specs.Decode.{type_def}
use Rattle.open_types.proofs.skip_types.Given as goal

abbrev pub ghost-skip_part : goal.ghost-skip_part
ghost-skip_part a = λ p. step_of (type_def (first_words a.sheet.now a.n) p)
