use Rattle.rule7_numbers.specs.Numbers.{ref_faults}
use Rattle.rule7_numbers.proofs.check_ref.Goals as goal

pub returns : goal.returns
unfolding ref_faults
returns c = c.unless.ensures
