use native.Mathlib.Omega.{arith}
use Rattle.open_hosts.specs.OrderLaws.{all_differ, neighbours_below, neighbours_differ, neighbours_equal}
use Rattle.open_hosts.proofs.compare.Hosts.is_distinct.Goals as goal

pub same_pair-requires-clause-x_bound : goal.same_pair-requires-clause-x_bound
same_pair-requires-clause-x_bound c = omega (
  arith,
  neighbours_below _ _ c.requires _ _ c.entry_count-count.ensures c.at-x.ensures
      c.at-y.ensures c.loop-i.invariant c.loop-i-test.true,
)

pub returns-then-same_pair : goal.returns-then-same_pair
returns-then-same_pair c = neighbours_equal _ _ c.requires _ _ c.entry_count-count.ensures c.at-x.ensures c.at-y.ensures
    c.loop-i.invariant c.loop-i-test.true c.same_pair.ensures c.if-same_pair.true

pub loop-i-preserved : goal.loop-i-preserved
loop-i-preserved c = neighbours_differ _ _ c.requires _ _ c.entry_count-count.ensures c.at-x.ensures c.at-y.ensures c.loop-i.invariant
    c.loop-i-test.true c.same_pair.ensures c.if-same_pair.false

pub returns : goal.returns
returns c = all_differ _ _ c.requires _ c.loop-i.invariant (omega (arith, c.entry_count-count.ensures, c.loop-i-test.false))
