use borrow.Author.Rules.{rules}
use native.Mathlib.Omega.{arith}
use Rattle.rule7_callees.proofs.KindSteps.{ref_within, kind_holds, kind_broken}
use Rattle.rule7_callees.proofs.kinds.check_kind.Goals as goal

pub overflow_add-c : goal.overflow_add-c
overflow_add-c c = omega (arith, ref_within _ _ _ c.requires.framed _ c.requires.b_bound)

pub overflow_add-c-2 : goal.overflow_add-c-2
overflow_add-c-2 c = omega (arith, ref_within _ _ _ c.requires.framed _ c.requires.b_bound)

pub returns-then-type_kind-wanted_word : goal.returns-then-type_kind-wanted_word
returns-then-type_kind-wanted_word c = search (rules, kind_holds)

pub returns : goal.returns
returns c = search (rules, kind_broken)
