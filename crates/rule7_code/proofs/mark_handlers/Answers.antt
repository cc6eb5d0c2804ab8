use borrow.Author.Rules.{rules}
use native.Mathlib.Omega.{arith}
use Rattle.rule7_code.proofs.MarkSteps.{marks_begin, marks_first, marks_step, marks_next, marks_done, marks_below, marking}
use Rattle.rule7_parts.proofs.LastSteps.{code_inside}
use Rattle.rule7_parts.proofs.HandlerSteps.{handlers_room}
use Rattle.rule7_code.proofs.mark_handlers.Goals as goal

pub overflow_mul-o : goal.overflow_mul-o
overflow_mul-o c = search (rules, marking)

pub overflow_cast-c : goal.overflow_cast-c
overflow_cast-c c = omega (arith, code_inside _ _ _ c.requires.framed, c.requires.words_bound)

pub fill-requires : goal.fill-requires
fill-requires c = search (rules, marking)

pub loop-i-init : goal.loop-i-init
loop-i-init c = marks_first _ _ _ _ _ (marks_begin _ _ _ _ _ c.fill.ensures.frame c.requires.framed c.requires.ready c.requires.c_value c.fill.ensures.by_index)

pub overflow_add-c : goal.overflow_add-c
overflow_add-c c = omega (arith, handlers_room _ _ _ c.requires.framed, c.requires.words_bound)

pub overflow_add-c-in-loop-i : goal.overflow_add-c-in-loop-i
overflow_add-c-in-loop-i c = omega (arith, handlers_room _ _ _ c.requires.framed, c.requires.words_bound, c.loop-i-test.true)

pub mark_handler-requires-clause-at_bound : goal.mark_handler-requires-clause-at_bound
mark_handler-requires-clause-at_bound c = omega (arith, handlers_room _ _ _ c.requires.framed, c.loop-i-test.true)

pub mark_handler-requires-clause-at_bound_2 : goal.mark_handler-requires-clause-at_bound_2
mark_handler-requires-clause-at_bound_2 c = marks_below _ _ _ _ _ _ _ c.loop-i.invariant c.requires.framed (omega (arith, c.loop-i-test.true))

pub loop-i-preserved : goal.loop-i-preserved
loop-i-preserved c = marks_step _ _ _ _ _ _ (marks_next _ _ _ _ _ _ _ c.loop-i.invariant c.requires.framed (omega (arith, c.loop-i-test.true)) c.mark_handler.ensures)

pub returns : goal.returns
returns c = marks_done _ _ _ _ _ c.fill.ensures.frame _ _ _ c.loop-i.invariant (omega (arith, c.loop-i-test.false))
