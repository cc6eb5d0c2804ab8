use borrow.Author.Rules.{rules}
use native.Mathlib.Omega.{arith}
use Rattle.std.proofs.lemmas.Result.{err_from_is_err_and}
use Rattle.rule7_code.proofs.CodeSteps.{coding, coded_length, coded_ready, coded_tallied}
use Rattle.open_sheet.specs.ReadyLaws.{above_length}
use Rattle.rule7_code.proofs.check_codes.Goals as goal

pub loop-f-init : goal.loop-f-init
loop-f-init c = search (rules, coding)

pub check_code-requires : goal.check_code-requires
check_code-requires c =
    record { ready = coded_ready _ _ _ _ _ c.loop-f.invariant; tallied = coded_tallied _ _ _ _ _ c.loop-f.invariant; f_lt_funcs = c.loop-f-test.true; words_bound = c.requires.words_bound }

pub shape_of-work-in_err-check_code : goal.shape_of-work-in_err-check_code
shape_of-work-in_err-check_code c = omega (arith, coded_length _ _ _ _ _ c.loop-f.invariant, above_length _ _ _ c.check_code.ensures.above)

pub returns-in_err-check_code : goal.returns-in_err-check_code
returns-in_err-check_code c =
    let p = err_from_is_err_and c.from_residual.result c.from_residual.ensures.1 in
    record { value = rw (p.1, p.2) (search (rules, coding, c.in_err-check_code.was)); above = search (rules, coding) }

pub loop-f-preserved : goal.loop-f-preserved
loop-f-preserved c = search (rules, coding, c.in_ok-check_code.was)

pub shape_of-work : goal.shape_of-work
shape_of-work c = omega (arith, coded_length _ _ _ _ _ c.loop-f.invariant)

pub returns : goal.returns
returns c = record { value = search (rules, coding); above = search (rules, coding) }
