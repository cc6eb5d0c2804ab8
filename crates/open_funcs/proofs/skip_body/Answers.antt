use borrow.Author.Rules.{rules}
use Rattle.open_funcs.proofs.FuncSteps.{bodies}
use Rattle.open_funcs.proofs.skip_body.Goals as goal

pub returns : goal.returns
returns c = search (rules, bodies, c.in_ok-code.was)
