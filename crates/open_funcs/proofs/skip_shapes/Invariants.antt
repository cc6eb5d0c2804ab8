use Rattle.blocks.specs.Frame.{first_words}
use Rattle.reader.specs.Step.{step_of}
use Rattle.reader.specs.Reader.{word, many, list_of}
use Rattle.open_funcs.proofs.skip_shapes.Given as goal

abbrev pub ghost-skip_list : goal.ghost-skip_list
ghost-skip_list a = λ p. step_of (list_of (many 2 word) (first_words a.bytes.now a.n) p)
