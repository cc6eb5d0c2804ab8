use borrow.Author.Rules.{rules}
use native.Mathlib.Omega.{arith}
use Rattle.rule7_parts.proofs.HandlerSteps.{regs_inside, register_is}
use Rattle.rule7_parts.proofs.dyn_register.Goals as goal

pub overflow_add-c : goal.overflow_add-c
overflow_add-c c = omega (arith, regs_inside)

pub overflow_add-c-2 : goal.overflow_add-c-2
overflow_add-c-2 c = omega (arith, regs_inside)

pub returns : goal.returns
returns c = search (rules, register_is)
