use Rattle.blocks.specs.Frame.{first_words}
use Rattle.reader.specs.Step.{step_of}
use Rattle.sheet.specs.Decode.{function_of}
use Rattle.open_funcs.proofs.skip_functions.Given as goal

abbrev pub ghost-skip_list : goal.ghost-skip_list
ghost-skip_list a = λ p. step_of (function_of (first_words a.bytes.now a.n) p)
