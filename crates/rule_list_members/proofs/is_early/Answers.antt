use borrow.Author.Rules.{rules}
use Rattle.rule_list_members.proofs.MemberSteps.{early_params, early_args}
use Rattle.rule_list_members.proofs.is_early.Goals as goal

pub returns-in-Params : goal.returns-in-Params
returns-in-Params c = search (rules, early_params, early_args)

pub returns-in-Args : goal.returns-in-Args
returns-in-Args c = search (rules, early_params, early_args)
