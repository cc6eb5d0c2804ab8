use borrow.Author.Rules.{rules}
use native.Mathlib.Omega.{arith}
use Rattle.std.proofs.lemmas.Result.{err_from_is_err_and}
use Rattle.rule7_code.proofs.CodeSteps.{code_stop, code_last, parts_handlers, func_few}
use Rattle.open_sheet.specs.ReadyLaws.{above_refl, above_length}
use Rattle.rule7_code.proofs.check_code.Goals as goal

pub check_parts-requires : goal.check_parts-requires
check_parts-requires c = record { func_bound = func_few _ _ _ _ c.requires.ready c.open_frame-c.ensures.framed c.requires.words_bound; framed = c.open_frame-c.ensures.framed; words_bound = c.requires.words_bound }

pub returns-in_err-check_parts : goal.returns-in_err-check_parts
returns-in_err-check_parts c =
    let p = err_from_is_err_and c.from_residual.result c.from_residual.ensures.1 in
    record { value = rw (p.1, p.2) (search (rules, code_stop, c.in_err-check_parts.was)); above = search (rules, above_refl) }

pub sweep_code-requires : goal.sweep_code-requires
sweep_code-requires c = record { ready = c.requires.ready; tallied = c.requires.tallied; framed = c.open_frame-c.ensures.framed; c_value = search (rules, parts_handlers, c.in_ok-check_parts.was); words_bound = c.requires.words_bound }

pub shape_of-work : goal.shape_of-work
shape_of-work c = omega (arith, above_length _ _ _ c.sweep_code.ensures.above)

pub returns : goal.returns
returns c = record { value = search (rules, code_last, c.in_ok-check_parts.was); above = c.sweep_code.ensures.above }
