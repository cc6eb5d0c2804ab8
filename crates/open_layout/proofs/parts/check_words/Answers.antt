use borrow.Author.Rules.{rules}
use Rattle.open_layout.proofs.LayoutSteps.{firsts}
use Rattle.open_layout.proofs.parts.check_words.Goals as goal

pub returns-in_err-imports : goal.returns-in_err-imports
returns-in_err-imports c =
    rw c.from_residual-in_err-imports.ensures
    (search (rules, firsts, c.in_ok-types.was, c.in_ok-consts.was, c.in_err-imports.was))

pub returns : goal.returns
returns c = search (rules, firsts, c.in_ok-types.was, c.in_ok-consts.was, c.in_ok-imports.was)
