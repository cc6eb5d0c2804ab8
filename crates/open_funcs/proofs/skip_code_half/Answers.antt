use borrow.Author.Rules.{rules}
use Rattle.open_funcs.proofs.FuncSteps.{codes}
use Rattle.open_funcs.proofs.skip_code_half.Goals as goal

pub returns-in_err-tables : goal.returns-in_err-tables
returns-in_err-tables c =
    rw c.from_residual-in_err-tables.ensures
    (search (rules, codes, c.in_ok-type_refs.was, c.in_ok-handlers.was, c.in_err-tables.was))

pub returns : goal.returns
returns c = search (rules, codes, c.in_ok-type_refs.was, c.in_ok-handlers.was, c.in_ok-tables.was)
