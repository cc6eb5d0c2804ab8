use Rattle.blocks.specs.Frame.{first_words}
use Rattle.reader.specs.Step.{step_of}
use Rattle.host.specs.Host.{host_fn}
use Rattle.host.proofs.entries.skip_entries.Given as goal

abbrev pub ghost-skip_list : goal.ghost-skip_list
ghost-skip_list a = λ p. step_of (host_fn (first_words a.bytes.now a.n) p)
