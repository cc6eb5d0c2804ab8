use borrow.Author.Rules.{rules}
use Rattle.rule5_imports.proofs.ByNumber.{imports_judged, imports_linked}
use Rattle.rule5_imports.proofs.check_imports.Goals as goal

pub returns-clause-value : goal.returns-clause-value
returns-clause-value c = search (rules, imports_judged)

pub returns-clause-linked_if : goal.returns-clause-linked_if
returns-clause-linked_if c = search (rules, imports_linked)
