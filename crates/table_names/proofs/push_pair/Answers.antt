use Rattle.sheet.specs.Encode.{encode_pair}
use Rattle.table_names.proofs.push_pair.Goals as goal

pub returns-clause-table_after : goal.returns-clause-table_after
unfolding encode_pair
returns-clause-table_after c = c.push_all.ensures.table_after
