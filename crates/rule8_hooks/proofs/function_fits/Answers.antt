use borrow.Author.Rules.{rules}
use Rattle.open_sheet.specs.ReadyLaws.{func_room, captures_room}
use Rattle.rule8_hooks.proofs.BoundSteps.{function_fits_lem, function_captures}
use Rattle.rule8_hooks.proofs.function_fits.Goals as goal

pub at-requires : goal.at-requires
at-requires c = search (rules, captures_room)

pub returns-then-at-ne0 : goal.returns-then-at-ne0
returns-then-at-ne0 c = search (rules, function_captures)

pub func_at-requires : goal.func_at-requires
func_at-requires c = search (rules, func_room)

pub returns : goal.returns
returns c = search (rules, function_fits_lem)
