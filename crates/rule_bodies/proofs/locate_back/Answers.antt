use borrow.Author.Rules.{rules}
use Rattle.rule_bodies.proofs.BodySteps.{backs}
use Rattle.rule_bodies.proofs.locate_back.Goals as goal

pub returns : goal.returns
returns c = search (rules, backs)
