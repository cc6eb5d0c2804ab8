use Rattle.open_sheet.specs.ReadyLaws.{func_room}
use Rattle.rule7_callees.proofs.CalleeSteps.{callee_params_lem}
use Rattle.rule7_callees.proofs.callee_params.Goals as goal

pub func_at-requires : goal.func_at-requires
func_at-requires c = func_room _ _ _ c.requires.ready _ c.requires.g_lt_funcs

pub returns : goal.returns
returns c = callee_params_lem _ _ _ c.requires.ready _ c.requires.g_lt_funcs c.func_at.ensures c.word-sig.ensures c.param_count.ensures
