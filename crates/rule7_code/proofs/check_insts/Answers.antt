use borrow.Author.Rules.{rules}
use native.Mathlib.Omega.{arith}
use Rattle.std.proofs.lemmas.Result.{err_from_is_err_and}
use mathlib.Core.Path.{refl}
use Rattle.rule7_code.proofs.InstSteps.{sweeping, sweeps_room, sweeps_next, sweeps_stop}
use Rattle.rule7_parts.proofs.LastSteps.{code_inside, inst_whole}
use Rattle.rule7_code.proofs.check_insts.Goals as goal

pub loop-pc-init : goal.loop-pc-init
loop-pc-init c = search (rules, sweeping)

pub overflow_mul-o : goal.overflow_mul-o
overflow_mul-o c = omega (arith, code_inside _ _ _ c.requires.framed, c.loop-pc-test.true, c.requires.words_bound)

pub overflow_cast-pc : goal.overflow_cast-pc
overflow_cast-pc c = omega (arith, code_inside _ _ _ c.requires.framed, c.loop-pc-test.true, c.requires.words_bound)

pub overflow_add-o : goal.overflow_add-o
overflow_add-o c = omega (arith, code_inside _ _ _ c.requires.framed, c.loop-pc-test.true, c.requires.words_bound)

pub offset_bounds-work-o : goal.offset_bounds-work-o
offset_bounds-work-o c = omega (arith, code_inside _ _ _ c.requires.framed, c.loop-pc-test.true, c.requires.words_bound)

pub bounds-work-o : goal.bounds-work-o
bounds-work-o c = sweeps_room _ _ _ _ _ c.requires.ready c.requires.framed c.loop-pc-test.true

pub max-reach-requires : goal.max-reach-requires
max-reach-requires c = search (rules, sweeping)

pub overflow_add-c : goal.overflow_add-c
overflow_add-c c = omega (arith, code_inside _ _ _ c.requires.framed, c.loop-pc-test.true, c.requires.words_bound)

pub overflow_cast-pc-in-loop-pc : goal.overflow_cast-pc-in-loop-pc
overflow_cast-pc-in-loop-pc c = omega (arith, code_inside _ _ _ c.requires.framed, c.loop-pc-test.true, c.requires.words_bound)

pub overflow_mul-pc : goal.overflow_mul-pc
overflow_mul-pc c = omega (arith, code_inside _ _ _ c.requires.framed, c.loop-pc-test.true, c.requires.words_bound)

pub overflow_add-c-in-loop-pc : goal.overflow_add-c-in-loop-pc
overflow_add-c-in-loop-pc c = omega (arith, code_inside _ _ _ c.requires.framed, c.loop-pc-test.true, c.requires.words_bound)

pub check_inst-v-requires : goal.check_inst-v-requires
check_inst-v-requires c = record { ready = c.requires.ready; framed = c.requires.framed; tallied = c.requires.tallied; shaped = c.requires.shaped; words_bound = c.requires.words_bound; whole = inst_whole _ _ _ c.requires.framed _ c.loop-pc-test.true }

pub at_position-requires : goal.at_position-requires
at_position-requires c = record { f_bound = c.requires.func_bound; pc_bound = omega (arith, code_inside _ _ _ c.requires.framed, c.loop-pc-test.true, c.requires.words_bound) }

pub returns-in_err-at_position : goal.returns-in_err-at_position
returns-in_err-at_position c =
    let p = err_from_is_err_and c.from_residual.result c.from_residual.ensures.1 in
    rw (p.1, p.2) (sweeps_stop _ _ _ _ c.requires.framed _ _ c.loop-pc.invariant c.requires.ends c.loop-pc-test.true refl c.max-reach.ensures refl c.check_inst-v.ensures c.at_position.ensures (c.in_err-at_position.was {u = tt}))

pub loop-pc-preserved : goal.loop-pc-preserved
loop-pc-preserved c = sweeps_next _ _ _ _ c.requires.framed _ _ c.loop-pc.invariant c.requires.ends c.loop-pc-test.true refl c.max-reach.ensures refl c.check_inst-v.ensures c.at_position.ensures (c.in_ok-at_position.was {u = tt})

pub returns : goal.returns
returns c = search (rules, sweeping)
