use native.Mathlib.Omega.{arith}
use Rattle.rule_lists.proofs.ReferenceSteps.{fitting_start, fitting_inside, fitting_values, fitting_end, fitting_stop, fitting_next}
use Rattle.rule_lists.proofs.references.references_fit.Goals as goal

pub loop-init : goal.loop-init
loop-init c = fitting_start _ _ _ _ _ _ c.requires.count_bound c.requires.count_bound_2

pub reference_fits-requires : goal.reference_fits-requires
reference_fits-requires c = c.requires.ready

pub returns-then-not-reference_fits : goal.returns-then-not-reference_fits
returns-then-not-reference_fits c =
    fitting_stop _ _ _ _ _ _ _ _ _ c.loop.invariant c.loop-test.true c.word.ensures c.word-in-loop.ensures
    c.if-not-reference_fits.true c.reference_fits.ensures

pub overflow_add-p : goal.overflow_add-p
overflow_add-p c = omega (arith, fitting_inside _ _ _ _ _ _ _ _ _ c.loop.invariant, c.loop-test.true, c.requires.ready.room)

pub overflow_add-q : goal.overflow_add-q
overflow_add-q c = omega (arith, fitting_values _ _ _ _ _ _ _ _ _ c.loop.invariant, c.loop-test.true, c.requires.ready.room)

pub loop-preserved : goal.loop-preserved
loop-preserved c = fitting_next _ _ _ _ _ _ _ _ _ c.loop.invariant c.loop-test.true c.word.ensures c.word-in-loop.ensures
    c.if-not-reference_fits.false c.reference_fits.ensures

pub returns : goal.returns
returns c = fitting_end _ _ _ _ _ _ _ _ _ c.loop.invariant c.loop-test.false
