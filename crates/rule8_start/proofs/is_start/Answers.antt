use borrow.Author.Rules.{rules}
use Rattle.open_sheet.specs.ReadyLaws.{func_room}
use Rattle.rule8_start.proofs.StartSteps.{start_both, start_takes}
use Rattle.rule8_start.proofs.is_start.Goals as goal

pub func_at-requires : goal.func_at-requires
func_at-requires c = search (rules, func_room)

pub returns-then-param_count-eq0 : goal.returns-then-param_count-eq0
returns-then-param_count-eq0 c = search (rules, start_both)

pub returns-else-param_count-eq0 : goal.returns-else-param_count-eq0
returns-else-param_count-eq0 c = search (rules, start_takes)
