use borrow.Author.Rules.{rules}
use Rattle.rule4_consts.proofs.ByNumber.{consts_judged}
use Rattle.rule4_consts.proofs.check_consts.Goals as goal

pub returns : goal.returns
returns c = search (rules, consts_judged)
