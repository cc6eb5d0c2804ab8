use borrow.Author.Rules.{rules}
use Rattle.open_funcs.proofs.FuncSteps.{functions}
use Rattle.open_funcs.proofs.skip_function.Goals as goal

pub returns : goal.returns
returns c = search (rules, functions, c.in_ok-code.was)
