use native.Mathlib.Omega.{arith}
use Rattle.open_hosts.specs.SortedLaws.{roomy}
use Rattle.loader.proofs.+load_most.Goals as goal

pub load_with-requires : goal.load_with-requires
load_with-requires t c = (omega arith, roomy _ 390142 (omega arith))
