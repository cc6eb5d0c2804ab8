use borrow.Author.Rules.{rules}
use Rattle.open_sheet.specs.ReadyLaws.{ready_kept, kept_then}
use Rattle.rules.proofs.OrderSteps.{types_stop, parents_stop, consts_last, front_order}
use Rattle.rules.proofs.check_front.Goals as goal

pub returns-in_err-check_types-clause-value : goal.returns-in_err-check_types-clause-value
returns-in_err-check_types-clause-value c =
    let s = types_stop _ _ (c.in_err-check_types.was {u = tt}) c.check_types.ensures in
    search (rules, s)

pub returns-in_err-check_chains-clause-value : goal.returns-in_err-check_chains-clause-value
returns-in_err-check_chains-clause-value c =
    let s = parents_stop _ _ (c.in_ok-check_types.was {u = tt}) c.check_types.ensures (c.in_err-check_chains.was {u = tt}) c.check_chains.ensures.value in
    search (rules, s)

pub returns-clause-value : goal.returns-clause-value
returns-clause-value c =
    consts_last _ (c.in_ok-check_types.was {u = tt}) c.check_types.ensures (c.in_ok-check_chains.was {u = tt}) c.check_chains.ensures.value c.check_consts.ensures.value

pub returns-in_err-check_types-clause-kept : goal.returns-in_err-check_types-clause-kept
returns-in_err-check_types-clause-kept c = search (rules, front_order)

pub check_consts-requires : goal.check_consts-requires
check_consts-requires c = search (rules, ready_kept)

pub returns-clause-kept : goal.returns-clause-kept
returns-clause-kept c = search (rules, kept_then)
