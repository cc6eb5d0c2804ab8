use borrow.Author.Rules.{rules}
use native.Mathlib.Omega.{arith}
use Rattle.utf8.proofs.Stepping.{first_done, first_tail1, first_e0, first_tail2, first_e_d, first_tail2_late, first_f0, first_tail3, first_f4, first_tail, first_past}
use Rattle.utf8.proofs.first.Goals as goal

pub returns-then-b-lt128 : goal.returns-then-b-lt128
returns-then-b-lt128 c = first_done _ (omega arith)

pub returns-in-224 : goal.returns-in-224
returns-in-224 c = search (rules, first_e0, first_e_d, first_f0, first_f4)

pub returns-in-237 : goal.returns-in-237
returns-in-237 c = search (rules, first_e0, first_e_d, first_f0, first_f4)

pub returns-in-240 : goal.returns-in-240
returns-in-240 c = search (rules, first_e0, first_e_d, first_f0, first_f4)

pub returns-in-244 : goal.returns-in-244
returns-in-244 c = search (rules, first_e0, first_e_d, first_f0, first_f4)

pub returns-in-194-to-223 : goal.returns-in-194-to-223
returns-in-194-to-223 c = first_tail1 _ (omega arith) (omega arith)

pub returns-in-225-to-236 : goal.returns-in-225-to-236
returns-in-225-to-236 c = first_tail2 _ (omega arith) (omega arith)

pub returns-in-238-to-239 : goal.returns-in-238-to-239
returns-in-238-to-239 c = first_tail2_late _ (omega arith) (omega arith)

pub returns-in-241-to-243 : goal.returns-in-241-to-243
returns-in-241-to-243 c = first_tail3 _ (omega arith) (omega arith)

pub returns-in_default : goal.returns-in_default
returns-in_default c = first_tail _ (omega arith) (omega arith)

pub returns-in_default-2 : goal.returns-in_default-2
returns-in_default-2 c = first_past _ (omega arith)
