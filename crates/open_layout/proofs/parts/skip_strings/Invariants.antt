use Rattle.blocks.specs.Frame.{first_words}
use Rattle.reader.specs.Step.{step_of}
use Rattle.reader.specs.Text.{string}
use Rattle.open_layout.proofs.parts.skip_strings.Given as goal

abbrev pub ghost-skip_part : goal.ghost-skip_part
ghost-skip_part a = λ p. step_of (string (first_words a.sheet.now a.n) p)
