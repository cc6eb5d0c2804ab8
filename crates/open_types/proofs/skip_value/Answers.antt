use borrow.Author.Rules.{rules}
use Rattle.open_types.proofs.TypeSteps.{value_basic, value_ref, value_unlisted, value_past}
use Rattle.open_types.proofs.skip_value.Goals as goal

pub returns-then-n-at : goal.returns-then-n-at
returns-then-n-at c = search (rules, value_basic, value_ref, value_unlisted, value_past)

pub returns-in-13-to-15 : goal.returns-in-13-to-15
returns-in-13-to-15 c = search (rules, value_basic, value_ref, value_unlisted, value_past)

pub returns-in_default : goal.returns-in_default
returns-in_default c = search (rules, value_basic, value_ref, value_unlisted, value_past)
