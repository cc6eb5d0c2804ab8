use Rattle.host.proofs.EntrySteps.{name_next}
use Rattle.host.proofs.entries.skip_entry.Goals as goal

pub returns : goal.returns
returns c =
    name_next _ _ _ (c.in_ok-name.was {u = tt}) c.skip_string.ensures _
    (c.in_ok-kind.was {u = tt}) c.skip_string-2.ensures c.skip_kind.ensures
