use borrow.Author.Rules.{rules}
use Rattle.open_parts.proofs.ConstSteps.{globals}
use Rattle.open_parts.proofs.imports.skip_global.Goals as goal

pub returns-then-n-p : goal.returns-then-n-p
returns-then-n-p c = search (rules, globals, c.in_ok-p.was)
