use borrow.Author.Rules.{rules}
use Rattle.open_sheet.specs.ReadyLaws.{type_room, type_whole}
use Rattle.rule_signatures.proofs.SigSteps.{type_results, missing_results}
use Rattle.rule_signatures.proofs.result_count.Goals as goal

pub returns-then-o-t : goal.returns-then-o-t
returns-then-o-t c = search (rules, type_room, type_whole, type_results, missing_results)

pub type_at-requires : goal.type_at-requires
type_at-requires c = search (rules, type_room, type_whole, type_results, missing_results)

pub results_in-requires : goal.results_in-requires
results_in-requires c = search (rules, type_room, type_whole, type_results, missing_results)

pub returns : goal.returns
returns c = search (rules, type_room, type_whole, type_results, missing_results)
