use native.Mathlib.Omega.{arith}
use mathlib.Core.Path.{refl}
use Rattle.rule_lists.proofs.ListWords.{params_in}
use Rattle.rule_lists.proofs.ListSteps.{params_absent, params_inside, types_inside, params_count, params_reference, params_hold, params_invalid}
use Rattle.rule_lists.proofs.check_params.Goals as goal

pub returns-then-word-eq0 : goal.returns-then-word-eq0
returns-then-word-eq0 c = record { value = params_absent _ _ _ c.requires.ready _ c.requires.whole _ c.requires.whole_2 c.word.ensures c.if-word-eq0.true; work_unchanged = refl }

pub overflow_add-at : goal.overflow_add-at
overflow_add-at c = omega (arith, params_in _ _ _ c.requires.whole, c.requires.ready.room)

pub returns-then-count-word : goal.returns-then-count-word
returns-then-count-word c = record { value = params_count _ _ _ c.requires.ready _ c.requires.whole _ c.requires.whole_2 c.word.ensures c.if-word-eq0.false c.word-count.ensures c.word-2.ensures (λ e. omega (arith, e)); work_unchanged = refl }

pub overflow_add-at-2 : goal.overflow_add-at-2
overflow_add-at-2 c = omega (arith, params_inside _ _ _ c.requires.ready _ c.requires.whole _ c.requires.whole_2 c.word.ensures c.if-word-eq0.false c.word-count.ensures c.word-2.ensures, c.requires.ready.room)

pub overflow_add-params_at : goal.overflow_add-params_at
overflow_add-params_at c = omega (arith, types_inside _ _ _ c.requires.ready _ c.requires.whole _ c.requires.whole_2 c.word.ensures c.if-word-eq0.false c.word-count.ensures c.word-2.ensures, c.requires.ready.room)

pub references_fit-requires : goal.references_fit-requires
references_fit-requires c = record { ready = c.requires.ready; count_bound = params_inside _ _ _ c.requires.ready _ c.requires.whole _ c.requires.whole_2 c.word.ensures c.if-word-eq0.false c.word-count.ensures c.word-2.ensures; count_bound_2 = omega (arith, types_inside _ _ _ c.requires.ready _ c.requires.whole _ c.requires.whole_2 c.word.ensures c.if-word-eq0.false c.word-count.ensures c.word-2.ensures, c.if-count-word.false) }

pub returns-then-not-references_fit : goal.returns-then-not-references_fit
returns-then-not-references_fit c = record { value = params_reference _ _ _ c.requires.ready _ c.requires.whole _ c.requires.whole_2 c.word.ensures c.if-word-eq0.false c.word-count.ensures c.word-2.ensures c.if-count-word.false c.references_fit.ensures c.if-not-references_fit.true; work_unchanged = refl }

pub overflow_add-at-3 : goal.overflow_add-at-3
overflow_add-at-3 c = omega (arith, params_inside _ _ _ c.requires.ready _ c.requires.whole _ c.requires.whole_2 c.word.ensures c.if-word-eq0.false c.word-count.ensures c.word-2.ensures, c.requires.ready.room)

pub are_valid-requires : goal.are_valid-requires
are_valid-requires c = record { ready = c.requires.ready; count_bound = params_inside _ _ _ c.requires.ready _ c.requires.whole _ c.requires.whole_2 c.word.ensures c.if-word-eq0.false c.word-count.ensures c.word-2.ensures }

pub returns-then-are_valid : goal.returns-then-are_valid
returns-then-are_valid c = record { value = params_hold _ _ _ c.requires.ready _ c.requires.whole _ c.requires.whole_2 c.word.ensures c.if-word-eq0.false c.word-count.ensures c.word-2.ensures c.if-count-word.false c.references_fit.ensures c.if-not-references_fit.false c.are_valid.ensures.value c.if-are_valid.true; work_unchanged = c.are_valid.ensures.work_unchanged }

pub returns : goal.returns
returns c = record { value = params_invalid _ _ _ c.requires.ready _ c.requires.whole _ c.requires.whole_2 c.word.ensures c.if-word-eq0.false c.word-count.ensures c.word-2.ensures c.if-count-word.false c.references_fit.ensures c.if-not-references_fit.false c.are_valid.ensures.value c.if-are_valid.false; work_unchanged = c.are_valid.ensures.work_unchanged }
