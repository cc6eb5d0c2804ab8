use borrow.Author.Rules.{rules}
use Rattle.open_layout.proofs.LayoutSteps.{middles}
use Rattle.open_layout.proofs.parts.check_middle.Goals as goal

pub returns-in_err-hooks : goal.returns-in_err-hooks
returns-in_err-hooks c =
    rw c.from_residual-in_err-hooks.ensures
    (search (rules, middles, c.in_ok-globals.was, c.in_ok-funcs.was, c.in_err-hooks.was))

pub returns : goal.returns
returns c = search (rules, middles, c.in_ok-globals.was, c.in_ok-funcs.was, c.in_ok-hooks.was)
