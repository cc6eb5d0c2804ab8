-- At most one difference a case.
use Rattle.std.proofs.Common.{◌≤◌}
use Rattle.replay.proofs.replay_all.Given as goal

abbrev pub invariant-loop-i : goal.invariant-loop-i
invariant-loop-i g l = l.different ≤ l.i-counter
