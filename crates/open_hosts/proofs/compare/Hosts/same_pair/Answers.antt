use Rattle.open_hosts.proofs.EntrySteps.{compared_module, compared_name, pairs_same}
use Rattle.open_hosts.proofs.compare.Hosts.same_pair.Goals as goal

pub end_of-name-requires : goal.end_of-name-requires
end_of-name-requires c = compared_module _ _ _ c.requires.edged c.requires.x_bound.0 c.at-p.ensures

pub compare_entry-requires-clause-whole : goal.compare_entry-requires-clause-whole
compare_entry-requires-clause-whole c = compared_module _ _ _ c.requires.edged c.requires.x_bound.0 c.at-p.ensures

pub compare_entry-requires-clause-whole_2 : goal.compare_entry-requires-clause-whole_2
compare_entry-requires-clause-whole_2 c = compared_name _ _ _ c.requires.edged c.requires.x_bound.0 c.at-p.ensures c.end_of-name.ensures

pub returns : goal.returns
returns c = pairs_same _ _ _ _ c.requires.edged c.requires.x_bound.0 c.at-p.ensures c.end_of-name.ensures c.compare_entry.ensures
    c.is_eq.ensures
