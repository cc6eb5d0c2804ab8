use Rattle.rule7_numbers.specs.Numbers.{capture_faults}
use Rattle.rule7_numbers.proofs.check_captures.Goals as goal

pub returns : goal.returns
unfolding capture_faults
returns c = c.unless.ensures
