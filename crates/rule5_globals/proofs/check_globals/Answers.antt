use borrow.Author.Rules.{rules}
use Rattle.rule5_globals.proofs.GlobalSteps.{globals_judged}
use Rattle.rule5_globals.proofs.check_globals.Goals as goal

pub returns : goal.returns
returns c = search (rules, globals_judged)
