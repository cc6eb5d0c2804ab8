use borrow.Author.Rules.{rules}
use Rattle.open_hosts.proofs.EntrySteps.{compared_module, compared_name, compared, by_names}
use Rattle.open_hosts.proofs.compare.Hosts.compare_entry.Goals as goal

pub compare_strings-requires-clause-whole_2 : goal.compare_strings-requires-clause-whole_2
compare_strings-requires-clause-whole_2 c = search (rules, compared_module)

pub then_with-requires : goal.then_with-requires
then_with-requires c = search (rules, compared_module, compared_name)

pub returns : goal.returns
returns c =
    compared _ _ _ c.requires.edged c.requires.bound c.at-p.ensures _ _ _ c.compare_strings.ensures _ c.then_with.ensures λ k.
    search (rules, by_names)
