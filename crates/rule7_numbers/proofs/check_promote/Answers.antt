use Rattle.rule7_numbers.specs.Numbers.{promote_faults}
use Rattle.rule7_numbers.proofs.check_promote.Goals as goal

pub returns : goal.returns
unfolding promote_faults
returns c = c.unless.ensures
