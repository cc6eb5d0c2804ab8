use borrow.Author.Rules.{rules}
use native.Mathlib.Omega.{arith}
use Rattle.rule2_structs.proofs.StructRules.{method_in, method_stop, method_then}
use Rattle.rule2_structs.proofs.check_method.Goals as goal

pub overflow_add-at : goal.overflow_add-at
overflow_add-at c = omega (arith, method_in)

pub returns-in_err-func_in : goal.returns-in_err-func_in
returns-in_err-func_in c =
    let s = method_stop _ _ _ c.requires.whole c.word.ensures _ c.requires.opens c.func_in.ensures (c.in_err-func_in.was {u = tt}) in
    search (rules, s)

pub returns : goal.returns
returns c = search (rules, method_stop, method_then, c.in_ok-func_in.was)
