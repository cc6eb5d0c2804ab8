use borrow.Author.Rules.{rules}
use Rattle.rule_lists.proofs.ReferenceSteps.{reference_none, reference_some}
use Rattle.rule_lists.proofs.references.reference_fits.Goals as goal

pub returns-then-flags-ne1 : goal.returns-then-flags-ne1
returns-then-flags-ne1 c = search (rules, reference_none)

pub returns-else-flags-ne1 : goal.returns-else-flags-ne1
returns-else-flags-ne1 c = search (rules, reference_some)
