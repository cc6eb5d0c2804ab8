use borrow.Author.Rules.{rules}
use Rattle.rule8_hooks.proofs.HookSteps.{hooks_judged}
use Rattle.rule8_hooks.proofs.check_hooks.Goals as goal

pub returns : goal.returns
returns c = search (rules, hooks_judged)
