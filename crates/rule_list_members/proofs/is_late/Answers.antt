use borrow.Author.Rules.{rules}
use Rattle.rule_list_members.proofs.MemberSteps.{late_params, late_args}
use Rattle.rule_list_members.proofs.is_late.Goals as goal

pub returns-in-Params : goal.returns-in-Params
returns-in-Params c = search (rules, late_params, late_args)

pub returns-in-Args : goal.returns-in-Args
returns-in-Args c = search (rules, late_params, late_args)
