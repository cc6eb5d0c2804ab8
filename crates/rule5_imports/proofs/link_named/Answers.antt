use borrow.Author.Rules.{rules}
use Rattle.rule5_imports.proofs.LinkSteps.{host_place, host_linked, host_missing}
use Rattle.rule5_imports.proofs.link_named.Goals as goal

pub returns-in_default-clause-value : goal.returns-in_default-clause-value
returns-in_default-clause-value c = search (rules, host_missing)

pub entry_word-entry-requires-clause-k_in_bounds : goal.entry_word-entry-requires-clause-k_in_bounds
entry_word-entry-requires-clause-k_in_bounds c = search (rules, host_place)

pub returns-clause-value : goal.returns-clause-value
returns-clause-value c = search (rules, host_linked)
