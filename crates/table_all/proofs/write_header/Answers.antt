use Rattle.table_all.specs.Parts.{header_of}
use Rattle.table_all.proofs.write_header.Goals as goal

pub returns : goal.returns
unfolding header_of
returns c = c.push_all.ensures.table_after
