use Rattle.query_nearest.proofs.ScanSteps.{none_yet}
use Rattle.query_nearest.proofs.scan.Goals as goal

pub loop-a-init : goal.loop-a-init
loop-a-init c = none_yet _ _ _ c.requires.count_value
