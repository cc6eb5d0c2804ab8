use borrow.Author.Rules.{rules}
use Rattle.rule_list_members.proofs.MemberSteps.{unnamed_param, named_param, named_arg, unnamed_arg}
use Rattle.rule_list_members.proofs.name_of.Goals as goal

pub returns-in-Params : goal.returns-in-Params
returns-in-Params c = search (rules, unnamed_param, named_param, named_arg, unnamed_arg)

pub returns-in-Args : goal.returns-in-Args
returns-in-Args c = search (rules, unnamed_param, named_param, named_arg, unnamed_arg)
