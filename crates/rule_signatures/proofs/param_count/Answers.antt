use borrow.Author.Rules.{rules}
use Rattle.open_sheet.specs.ReadyLaws.{type_room, type_whole}
use Rattle.rule_signatures.proofs.SigSteps.{type_params, missing_params}
use Rattle.rule_signatures.proofs.param_count.Goals as goal

pub returns-then-o-t : goal.returns-then-o-t
returns-then-o-t c = search (rules, type_room, type_whole, type_params, missing_params)

pub type_at-requires : goal.type_at-requires
type_at-requires c = search (rules, type_room, type_whole, type_params, missing_params)

pub params_in-requires : goal.params_in-requires
params_in-requires c = search (rules, type_room, type_whole, type_params, missing_params)

pub returns : goal.returns
returns c = search (rules, type_room, type_whole, type_params, missing_params)
