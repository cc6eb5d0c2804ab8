use Rattle.open_types.proofs.TypeSteps.{struct_next}
use Rattle.open_types.proofs.skip_struct.Goals as goal

pub returns : goal.returns
returns c = struct_next _ _ _ _ c.if-n-at.false c.if-n-at-2.false (c.in_ok-p.was {u = tt}) c.skip_fields.ensures c.skip_records.ensures
