use borrow.Author.Rules.{rules}
use Rattle.open_types.proofs.TypeSteps.{func_next, func_stop}
use Rattle.open_types.proofs.skip_func_type.Goals as goal

pub returns-in_err-p : goal.returns-in_err-p
returns-in_err-p c = search (rules, func_next, func_stop)

pub returns : goal.returns
returns c = func_next _ _ _ (c.in_ok-p.was {u = tt}) c.skip_values.ensures c.skip_values-2.ensures
