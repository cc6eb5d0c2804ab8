use Rattle.open_hosts.proofs.EntrySteps.{found_whole, kind_read}
use Rattle.open_hosts.proofs.compare.Hosts.is_scheduler.Goals as goal

pub kind_of-requires : goal.kind_of-requires
kind_of-requires c = found_whole _ _ _ c.requires.edged c.requires.bound c.at.ensures

pub returns : goal.returns
returns c =
    kind_read _ _ _ _ c.kind_of.result c.requires.edged c.requires.bound c.at.ensures c.kind_of.ensures c.word.ensures
