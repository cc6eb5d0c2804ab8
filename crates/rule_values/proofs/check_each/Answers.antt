use borrow.Author.Rules.{rules}
use Rattle.law_judging.proofs.EachLaws.{goes_stop, goes_next, goes_end}
use Rattle.rule_values.proofs.check_each.Goals as goal

pub returns-in_err-check : goal.returns-in_err-check
returns-in_err-check g c =
    let k = c.requires.1.1.1 _ _ c.loop-i-test.true c.check.ensures in
    let s = goes_stop _ _ _ _ _ c.loop-i.invariant c.loop-i-test.true k (c.in_err-check.was {u = tt}) in
    search (rules, s)

pub loop-i-preserved : goal.loop-i-preserved
loop-i-preserved g c =
    let k = c.requires.1.1.1 _ _ c.loop-i-test.true c.check.ensures in
    goes_next _ _ _ _ _ c.loop-i.invariant c.loop-i-test.true k (c.in_ok-check.was {u = tt})

pub returns : goal.returns
returns g c = search (rules, goes_end)
