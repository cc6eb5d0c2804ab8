use Rattle.open_hosts.proofs.IndexSteps.{count_read}
use Rattle.open_hosts.proofs.order.entry_count.Goals as goal

pub returns : goal.returns
returns c = count_read _ _ c.requires c.widen.ensures c.word.ensures
