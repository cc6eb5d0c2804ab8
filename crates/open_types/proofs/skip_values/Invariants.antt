use Rattle.blocks.specs.Frame.{first_words}
use Rattle.reader.specs.Step.{step_of}
use Rattle.sheet.specs.Decode.{value_type}
use Rattle.open_types.proofs.skip_values.Given as goal

abbrev pub ghost-skip_list : goal.ghost-skip_list
ghost-skip_list a = λ p. step_of (value_type (first_words a.bytes.now a.n) p)
