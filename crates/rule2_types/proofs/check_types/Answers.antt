use borrow.Author.Rules.{rules}
use Rattle.rule2_types.proofs.KindRules.{types_judged}
use Rattle.rule2_types.proofs.check_types.Goals as goal

pub returns : goal.returns
returns c = search (rules, types_judged)
