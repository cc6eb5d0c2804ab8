use borrow.Author.Rules.{rules}
use Rattle.rule6_records.proofs.RecordSteps.{regs_whole, params_whole}
use Rattle.rule6_records.proofs.ParamSteps.{params_good, regs_good, params_broken, params_then}
use Rattle.rule6_records.proofs.check_sig_params.Goals as goal

pub params_first-requires-clause-whole_2 : goal.params_first-requires-clause-whole_2
params_first-requires-clause-whole_2 c = search (rules, regs_whole)

pub params_first-requires-clause-params_at_value : goal.params_first-requires-clause-params_at_value
params_first-requires-clause-params_at_value c = search (rules, params_good)

pub params_first-requires-clause-regs_at_value : goal.params_first-requires-clause-regs_at_value
params_first-requires-clause-regs_at_value c = search (rules, regs_good)

pub returns-then-not-params_first-clause-value : goal.returns-then-not-params_first-clause-value
returns-then-not-params_first-clause-value c = search (rules, params_broken)

pub check_params-requires-clause-whole : goal.check_params-requires-clause-whole
check_params-requires-clause-whole c = search (rules, params_whole)

pub returns-clause-value : goal.returns-clause-value
returns-clause-value c = search (rules, params_then)
