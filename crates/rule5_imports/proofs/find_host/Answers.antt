use Rattle.open_hosts.specs.SortedLaws.{list_whole}
use borrow.Author.Rules.{rules}
use Rattle.rule5_imports.proofs.RuleSteps.{module_room, name_room, module_whole, name_whole, host_found}
use Rattle.rule5_imports.proofs.find_host.Goals as goal

pub lookup-requires-clause-whole_2 : goal.lookup-requires-clause-whole_2
lookup-requires-clause-whole_2 c = search (rules, module_whole, name_whole)

pub lookup-requires-clause-whole_3 : goal.lookup-requires-clause-whole_3
lookup-requires-clause-whole_3 c = search (rules, module_whole, name_whole)

pub returns : goal.returns
returns c = search (rules, list_whole, module_room, name_room, module_whole, name_whole, host_found)
