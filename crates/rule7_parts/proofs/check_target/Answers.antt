use borrow.Author.Rules.{rules}
use Rattle.rule7_parts.proofs.TableSteps.{target_judged}
use Rattle.rule7_parts.proofs.check_target.Goals as goal

pub returns : goal.returns
returns c = search (rules, target_judged)
