use borrow.Author.Rules.{rules}
use Rattle.rules.proofs.OrderSteps.{codes_stop, ends_last, body_order}
use Rattle.rules.proofs.check_bodies.Goals as goal

pub returns-in_err-check_codes-clause-value : goal.returns-in_err-check_codes-clause-value
returns-in_err-check_codes-clause-value c =
    let s = codes_stop _ _ (c.in_err-check_codes.was {u = tt}) c.check_codes.ensures.value in
    search (rules, s)

pub returns-clause-value : goal.returns-clause-value
returns-clause-value c =
    ends_last _ (c.in_ok-check_codes.was {u = tt}) c.check_codes.ensures.value c.check_ends.ensures.value

pub check_codes-requires-clause-ready : goal.check_codes-requires-clause-ready
check_codes-requires-clause-ready c = search (rules, body_order)

pub returns-in_err-check_codes-clause-links_kept : goal.returns-in_err-check_codes-clause-links_kept
returns-in_err-check_codes-clause-links_kept c = search (rules, body_order)

pub check_ends-requires-clause-ready : goal.check_ends-requires-clause-ready
check_ends-requires-clause-ready c = search (rules, body_order)

pub check_ends-requires-clause-captured : goal.check_ends-requires-clause-captured
check_ends-requires-clause-captured c = search (rules, body_order)

pub returns-clause-links_kept : goal.returns-clause-links_kept
returns-clause-links_kept c = search (rules, body_order)
