use borrow.Author.Rules.{rules}
use Rattle.open_layout.proofs.LayoutSteps.{lasts}
use Rattle.open_layout.proofs.parts.check_last.Goals as goal

pub returns-in_err-end : goal.returns-in_err-end
returns-in_err-end c =
    rw c.from_residual-in_err-end.ensures
    (search (rules, lasts, c.in_ok-start.was, c.in_ok-exports.was, c.in_err-end.was))

pub returns-then-end-n : goal.returns-then-end-n
returns-then-end-n c = search (rules, lasts, c.in_ok-start.was, c.in_ok-exports.was, c.in_ok-end.was)

pub returns : goal.returns
returns c = search (rules, lasts, c.in_ok-start.was, c.in_ok-exports.was, c.in_ok-end.was)
