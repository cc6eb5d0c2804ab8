use borrow.Author.Rules.{rules}
use Rattle.open_funcs.proofs.FuncSteps.{frames}
use Rattle.open_funcs.proofs.skip_frame_half.Goals as goal

pub returns-in_err-captures : goal.returns-in_err-captures
returns-in_err-captures c =
    rw c.from_residual-in_err-captures.ensures
    (search (rules, frames, c.in_ok-params.was, c.in_ok-shapes.was, c.in_err-captures.was))

pub returns : goal.returns
returns c = search (rules, frames, c.in_ok-params.was, c.in_ok-shapes.was, c.in_ok-captures.was)
