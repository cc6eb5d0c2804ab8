use borrow.Author.Rules.{rules}
use Rattle.std.proofs.Common.{◌∙◌, refl}
use native.Mathlib.Omega.{arith}
use Rattle.rule4_nesting.proofs.Children.{nests, nests_far, nests_deep, nests_next, child_within, larger}
use Rattle.rule4_nesting.proofs.nest.Goals as goal

pub loop-i-init : goal.loop-i-init
loop-i-init c = search (rules, nests)

pub overflow_add-at : goal.overflow_add-at
overflow_add-at c = omega (arith, child_within _ _ _ _ _ _ _ _ _ _ c.loop-i.invariant c.loop-i-test.true)

pub returns-then-c-child : goal.returns-then-c-child
returns-then-c-child c = nests_far _ _ _ _ _ _ _ _ _ _ c.loop-i.invariant c.loop-i-test.true c.word.ensures (omega arith)

pub returns-then-most-below : goal.returns-then-most-below
returns-then-most-below c = nests_deep _ _ _ _ _ _ _ _ _ _ c.loop-i.invariant c.loop-i-test.true c.word.ensures c.if-c-child.false refl
    (omega arith)

pub loop-i-preserved : goal.loop-i-preserved
loop-i-preserved c =
    nests_next _ _ _ _ _ _ _ _ _ _ c.loop-i.invariant c.loop-i-test.true c.word.ensures c.if-c-child.false refl
    c.if-most-below.false (c.max-depth.ensures ∙ larger _ _)

pub returns : goal.returns
returns c = search (rules, nests)
