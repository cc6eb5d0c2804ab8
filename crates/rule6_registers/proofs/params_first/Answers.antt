use borrow.Author.Rules.{rules}
use native.Mathlib.Omega.{arith}
use Rattle.rule6_registers.proofs.FrontSteps.{too_many, fronts_start, fronts_end, param_whole, reg_whole, param_within, reg_within, param_clear, reg_clear, fronts_next, fronts_stop}
use Rattle.rule6_registers.proofs.params_first.Goals as goal

pub returns-then-regs-params : goal.returns-then-regs-params
returns-then-regs-params c = search (rules, too_many)

pub loop-i-init : goal.loop-i-init
loop-i-init c = search (rules, fronts_start)

pub overflow_add-params_at : goal.overflow_add-params_at
overflow_add-params_at c = omega (arith, param_within _ _ _ _ _ c.requires.whole c.requires.whole_2 _ _ c.loop-i.invariant c.loop-i-test.true)

pub overflow_add-params_at-in-loop-i : goal.overflow_add-params_at-in-loop-i
overflow_add-params_at-in-loop-i c = omega (arith, param_within _ _ _ _ _ c.requires.whole c.requires.whole_2 _ _ c.loop-i.invariant c.loop-i-test.true)

pub canon_at-p-requires : goal.canon_at-p-requires
canon_at-p-requires c = record { ready = c.requires.ready; whole = param_whole _ _ _ _ _ c.requires.whole c.requires.whole_2 _ _ c.loop-i.invariant c.loop-i-test.true; at_value = param_clear _ _ _ _ _ c.requires.whole c.requires.whole_2 _ _ c.loop-i.invariant c.loop-i-test.true c.requires.params_at_value }

pub overflow_add-regs_at : goal.overflow_add-regs_at
overflow_add-regs_at c = omega (arith, reg_within _ _ _ _ _ c.requires.whole c.requires.whole_2 _ _ c.loop-i.invariant c.loop-i-test.true)

pub overflow_add-regs_at-in-loop-i : goal.overflow_add-regs_at-in-loop-i
overflow_add-regs_at-in-loop-i c = omega (arith, reg_within _ _ _ _ _ c.requires.whole c.requires.whole_2 _ _ c.loop-i.invariant c.loop-i-test.true)

pub canon_at-r-requires : goal.canon_at-r-requires
canon_at-r-requires c = search (rules, reg_whole, reg_clear)

pub returns-then-p-r : goal.returns-then-p-r
returns-then-p-r c = search (rules, fronts_stop)

pub loop-i-preserved : goal.loop-i-preserved
loop-i-preserved c = fronts_next _ _ _ _ _ c.requires.whole c.requires.whole_2 _ _ c.loop-i.invariant c.loop-i-test.true c.canon_at-p.ensures c.canon_at-r.ensures c.if-p-r.false

pub returns : goal.returns
returns c = search (rules, fronts_end)
