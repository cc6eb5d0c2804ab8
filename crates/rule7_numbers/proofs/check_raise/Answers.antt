use Rattle.rule7_numbers.specs.Numbers.{raise_faults}
use Rattle.rule7_numbers.proofs.check_raise.Goals as goal

pub returns : goal.returns
unfolding raise_faults
returns c = c.unless.ensures
