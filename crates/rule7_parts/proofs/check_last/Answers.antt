use borrow.Author.Rules.{rules}
use native.Mathlib.Omega.{arith}
use Rattle.rule7_parts.proofs.LastSteps.{code_inside, lasts}
use Rattle.rule7_parts.proofs.check_last.Goals as goal

pub returns-then-c-eq0 : goal.returns-then-c-eq0
returns-then-c-eq0 c = search (rules, lasts)

pub overflow_add-c : goal.overflow_add-c
overflow_add-c c = omega (arith, code_inside _ _ _ c.requires.framed, c.requires.words_bound)

pub overflow_cast-last : goal.overflow_cast-last
overflow_cast-last c = omega (arith, code_inside _ _ _ c.requires.framed, c.requires.words_bound)

pub overflow_mul-last : goal.overflow_mul-last
overflow_mul-last c = omega (arith, code_inside _ _ _ c.requires.framed, c.requires.words_bound)

pub overflow_add-c-2 : goal.overflow_add-c-2
overflow_add-c-2 c = omega (arith, code_inside _ _ _ c.requires.framed, c.requires.words_bound)

pub read_inst-i-requires : goal.read_inst-i-requires
read_inst-i-requires c = search (rules, lasts)

pub returns-then-terminates : goal.returns-then-terminates
returns-then-terminates c = search (rules, lasts)

pub at_position-requires : goal.at_position-requires
at_position-requires c = record { f_bound = search rules; pc_bound = omega (arith, code_inside _ _ _ c.requires.framed, c.requires.words_bound) }

pub returns : goal.returns
returns c = search (rules, lasts)
