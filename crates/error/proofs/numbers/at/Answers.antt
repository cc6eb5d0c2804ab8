use mathlib.Core.Path.{refl}
use Rattle.error.specs.Numbers.{six_of}
use Rattle.error.proofs.numbers.at.Goals as goal

pub returns : goal.returns
returns c = unfold six_of in refl
