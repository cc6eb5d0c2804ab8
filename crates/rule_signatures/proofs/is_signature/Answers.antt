use borrow.Author.Rules.{rules}
use Rattle.rule_signatures.proofs.SigSteps.{few_results, no_signature}
use Rattle.rule_signatures.proofs.is_signature.Goals as goal

pub returns-then-word-eq0 : goal.returns-then-word-eq0
returns-then-word-eq0 c = search (rules, few_results, no_signature)

pub returns-else-word-eq0 : goal.returns-else-word-eq0
returns-else-word-eq0 c = search (rules, few_results, no_signature)
