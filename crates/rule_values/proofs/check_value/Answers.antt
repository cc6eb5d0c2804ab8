use borrow.Author.Rules.{rules}
use Rattle.rule_values.proofs.ValueRules.{value_plain, value_ref}
use Rattle.rule_values.proofs.check_value.Goals as goal

pub returns-then-w-lt16 : goal.returns-then-w-lt16
returns-then-w-lt16 c = search (rules, value_plain)

pub returns : goal.returns
returns c = search (rules, value_ref)
