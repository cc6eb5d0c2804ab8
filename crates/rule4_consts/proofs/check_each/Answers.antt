use borrow.Author.Rules.{rules}
use Rattle.std.proofs.lemmas.Result.{err_from_is_err_and}
use native.Mathlib.Omega.{arith}
use Rattle.rule4_consts.proofs.ByNumber.{deeps, deep_length, deep_entry}
use Rattle.rule4_consts.proofs.check_each.Goals as goal

pub loop-i-init : goal.loop-i-init
loop-i-init c = search (rules, deeps)

pub const_at-requires : goal.const_at-requires
const_at-requires c = deep_entry _ _ _ _ _ _ c.loop-i.invariant c.loop-i-test.true

pub nest_const-requires : goal.nest_const-requires
nest_const-requires c = search (rules, deeps)

pub bounds-work-o : goal.bounds-work-o
bounds-work-o c = search (rules, deeps)

pub returns-in_err-depth : goal.returns-in_err-depth
returns-in_err-depth c =
    let p = err_from_is_err_and c.from_residual.result c.from_residual.ensures.1 in
    rw (p.1, p.2) (search (rules, deeps, c.in_err-depth.was))

pub shape_of-work : goal.shape_of-work
shape_of-work c = omega (arith, deep_length)

pub loop-i-preserved : goal.loop-i-preserved
loop-i-preserved c = search (rules, deeps, c.in_ok-depth.was)

pub returns : goal.returns
returns c = search (rules, deeps)
