-- What has been read stands in the slice.
use Rattle.std.proofs.Common.{◌≤◌, length}
use Rattle.console.proofs.read_full.Given as goal

abbrev pub invariant-loop : goal.invariant-loop
invariant-loop g l = l.done ≤ length l.bytes
