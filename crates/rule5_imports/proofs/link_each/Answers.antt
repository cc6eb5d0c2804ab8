use mathlib.Core.Path.{refl}
use borrow.Author.Rules.{rules}
use Rattle.std.proofs.lemmas.Result.{err_from_is_err_and}
use Rattle.rule5_imports.proofs.ByNumber.{linkings, linking_next}
use Rattle.rule5_imports.proofs.link_each.Goals as goal

pub loop-i-init : goal.loop-i-init
loop-i-init c = search (rules, linkings)

pub returns-in_err-k-clause-value : goal.returns-in_err-k-clause-value
returns-in_err-k-clause-value c =
    let p = err_from_is_err_and c.from_residual.result c.from_residual.ensures.1 in
    rw (p.1, p.2) (search (rules, linkings, c.in_err-k.was))

pub bounds-work-o : goal.bounds-work-o
bounds-work-o c = search (rules, linkings)

pub loop-i-preserved : goal.loop-i-preserved
loop-i-preserved c =
    linking_next _ _ _ _ _ _ c.loop-i.invariant c.loop-i-test.true c.link_import.ensures.value (c.in_ok-k.was {u = tt})
    c.link_import.ensures.work_unchanged refl

pub returns-clause-value : goal.returns-clause-value
returns-clause-value c = search (rules, linkings)

pub returns-clause-entries_if : goal.returns-clause-entries_if
returns-clause-entries_if c = search (rules, linkings)
