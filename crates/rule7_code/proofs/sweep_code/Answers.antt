use native.Mathlib.Omega.{arith}
use Rattle.rule7_code.proofs.CodeSteps.{sweep_ready, sweep_above, swept_ready, swept_ends, swept_length}
use Rattle.rule7_code.proofs.CodeSteps.{swept_tallied, swept_shaped, func_few}
use Rattle.rule7_code.proofs.sweep_code.Goals as goal

pub mark_handlers-requires : goal.mark_handlers-requires
mark_handlers-requires c = record { ready = sweep_ready _ _ _ _ c.args.c c.requires.ready c.index_shapes.ensures.frame; framed = c.requires.framed; c_value = c.requires.c_value; words_bound = c.requires.words_bound }

pub check_insts-requires : goal.check_insts-requires
check_insts-requires c =
    let swept = swept_ready _ _ _ _ _ c.requires.ready c.index_shapes.ensures.frame _ c.mark_handlers.ensures in
    let tallied = swept_tallied _ _ _ _ _ c.requires.ready c.index_shapes.ensures.frame _ c.mark_handlers.ensures c.requires.tallied in
    let lengths = swept_shaped _ _ _ _ _ c.requires.framed c.mark_handlers.ensures c.index_shapes.ensures.shaped in
    let ends = swept_ends _ _ _ _ _ c.requires.ready c.index_shapes.ensures.frame _ c.mark_handlers.ensures in
    record { ready = swept; framed = c.requires.framed; tallied = tallied; shaped = lengths; words_bound = c.requires.words_bound; func_bound = func_few _ _ _ _ c.requires.ready c.requires.framed c.requires.words_bound; ends = ends }

pub shape_of-work : goal.shape_of-work
shape_of-work c = omega (arith, swept_length _ _ _ _ _ c.requires.ready c.index_shapes.ensures.frame _ c.mark_handlers.ensures)

pub returns : goal.returns
returns c = record { value = c.check_insts.ensures; above = sweep_above _ _ _ _ _ c.requires.ready c.index_shapes.ensures.frame _ c.mark_handlers.ensures }
