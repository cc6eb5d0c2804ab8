use borrow.Author.Rules.{rules}
use Rattle.open_types.proofs.TypeSteps.{field_next, field_past}
use Rattle.open_types.proofs.skip_field.Goals as goal

pub returns-then-n-at : goal.returns-then-n-at
returns-then-n-at c = search (rules, field_next, field_past)

pub returns : goal.returns
returns c = search (rules, field_next, field_past)
