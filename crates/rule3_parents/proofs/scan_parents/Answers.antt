use mathlib.Core.Path.{refl}
use borrow.Author.Rules.{rules}
use Rattle.rule3_parents.proofs.LaidSteps.{laid_in}
use Rattle.rule3_parents.proofs.ScanSteps.{scan_start, scan_skip, scan_next, scan_end, unfit_stop, deep_stop}
use Rattle.rule3_parents.proofs.ScanSteps.{compare_start, in_parent, in_child, compare_next, compare_stop}
use Rattle.rule3_parents.proofs.scan_parents.Goals as goal

pub types-init : goal.types-init
types-init c = search (rules, scan_start)

pub bounds-parents-t : goal.bounds-parents-t
bounds-parents-t c = search (rules, laid_in)

pub types-preserved-then-p-eq0 : goal.types-preserved-then-p-eq0
types-preserved-then-p-eq0 c = search (rules, scan_skip)

pub loop-i-init : goal.loop-i-init
loop-i-init c =
    compare_start _ _ _ _ c.requires.ready _ _ c.types.invariant c.types-test.true _ c.requires.parents_value refl
    c.if-p-eq0.false c.may_extend.ensures c.if-not-may_extend.false c.count_words-n.ensures

pub field_word-requires : goal.field_word-requires
field_word-requires c =
    record { ready = search rules; i_in_bounds = in_parent _ _ _ _ _ _ _ c.loop-i.invariant c.loop-i-test.true }

pub field_word-requires-in-loop-i : goal.field_word-requires-in-loop-i
field_word-requires-in-loop-i c =
    record { ready = c.requires.ready; i_in_bounds = in_child _ _ _ _ _ _ _ c.loop-i.invariant c.loop-i-test.true }

pub loop-i-preserved : goal.loop-i-preserved
loop-i-preserved c =
    compare_next _ _ _ _ _ _ _ c.loop-i.invariant c.loop-i-test.true
    c.field_word.ensures c.field_word-in-loop-i.ensures c.if-field_word.false

pub types-preserved : goal.types-preserved
types-preserved c =
    scan_next _ _ _ _ _ _ _ c.loop-i.invariant c.loop-i-test.false _ c.requires.parents_value c.numbers_met.ensures c.if-most-numbers_met.false

pub returns-after-types : goal.returns-after-types
returns-after-types c = search (rules, scan_end)

pub returns-then-not-may_extend : goal.returns-then-not-may_extend
returns-then-not-may_extend c = search (rules, unfit_stop)

pub returns-then-field_word : goal.returns-then-field_word
returns-then-field_word c = search (rules, compare_stop)

pub returns-then-most-numbers_met : goal.returns-then-most-numbers_met
returns-then-most-numbers_met c = search (rules, deep_stop)
