use borrow.Author.Rules.{rules}
use Rattle.rule_list_members.proofs.MemberSteps.{listed_params, listed_args}
use Rattle.rule_list_members.proofs.is_listed.Goals as goal

pub returns-in-Params : goal.returns-in-Params
returns-in-Params c = search (rules, listed_params, listed_args)

pub returns-in-Args : goal.returns-in-Args
returns-in-Args c = search (rules, listed_params, listed_args)
