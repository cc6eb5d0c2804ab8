use borrow.Author.Rules.{rules}
use Rattle.std.proofs.lemmas.Result.{err_from_is_err_and}
use Rattle.open_sheet.specs.ReadyLaws.{ready_kept}
use Rattle.rules.specs.GroupLaws.{front_types, links_ready, links_linked, linked_refused}
use Rattle.rules.proofs.OrderSteps.{front_stop, records_stop, bodies_last, all_order}
use Rattle.blocks.specs.Frame.{first_words}
use Rattle.host.specs.Listed.{hosts_in}
use Rattle.rules.proofs.check_module.Goals as goal

pub returns-in_err-check_front-clause-value : goal.returns-in_err-check_front-clause-value
returns-in_err-check_front-clause-value c =
    let s = front_stop (hosts_in (first_words c.args.hosts.now c.args.n)) _ _ (c.in_err-check_front.was {u = tt}) c.check_front.ensures.value in
    search (rules, s)

pub returns-in_err-check_front-clause-linked_if : goal.returns-in_err-check_front-clause-linked_if
returns-in_err-check_front-clause-linked_if c =
    let p = err_from_is_err_and c.from_residual.result c.from_residual.ensures.1 in
    rw (p.1, p.2) (linked_refused _ _ _ _ _)

pub check_records-requires-clause-o_value : goal.check_records-requires-clause-o_value
check_records-requires-clause-o_value c = front_types _ (c.in_ok-check_front.was {u = tt}) c.check_front.ensures.value

pub returns-in_err-check_records-clause-value : goal.returns-in_err-check_records-clause-value
returns-in_err-check_records-clause-value c =
    let s = records_stop _ _ _ (c.in_ok-check_front.was {u = tt}) c.check_front.ensures.value (c.in_err-check_records.was {u = tt}) c.check_records.ensures.value in
    search (rules, s)

pub returns-in_err-check_records-clause-ready_2 : goal.returns-in_err-check_records-clause-ready_2
returns-in_err-check_records-clause-ready_2 c = ready_kept _ _ _ (ready_kept _ _ _ c.requires.ready _ c.check_front.ensures.kept) _ c.check_records.ensures.kept

pub returns-in_err-check_records-clause-linked_if : goal.returns-in_err-check_records-clause-linked_if
returns-in_err-check_records-clause-linked_if c =
    let p = err_from_is_err_and c.from_residual-in_err-check_records.result c.from_residual-in_err-check_records.ensures.1 in
    rw (p.1, p.2) (linked_refused _ _ _ _ _)

pub check_bodies-requires-clause-ready : goal.check_bodies-requires-clause-ready
check_bodies-requires-clause-ready c = ready_kept _ _ _ (ready_kept _ _ _ c.requires.ready _ c.check_front.ensures.kept) _ c.check_records.ensures.kept

pub returns-clause-value : goal.returns-clause-value
returns-clause-value c =
    bodies_last _ _ (c.in_ok-check_front.was {u = tt}) c.check_front.ensures.value (c.in_ok-check_records.was {u = tt}) c.check_records.ensures.value c.check_bodies.ensures.value

pub returns-clause-ready_2 : goal.returns-clause-ready_2
returns-clause-ready_2 c = links_ready _ _ _ (ready_kept _ _ _ (ready_kept _ _ _ c.requires.ready _ c.check_front.ensures.kept) _ c.check_records.ensures.kept) _ c.check_bodies.ensures.links_kept

pub returns-clause-linked_if : goal.returns-clause-linked_if
returns-clause-linked_if c =
    links_linked _ _ _ (ready_kept _ _ _ (ready_kept _ _ _ c.requires.ready _ c.check_front.ensures.kept) _ c.check_records.ensures.kept) _ c.check_bodies.ensures.links_kept _ (c.in_ok-check_records.was {u = tt}) c.check_records.ensures.linked_if

pub returns-in_err-check_front-clause-ready_2 : goal.returns-in_err-check_front-clause-ready_2
returns-in_err-check_front-clause-ready_2 c = search (rules, ready_kept)

pub check_records-requires-clause-ready : goal.check_records-requires-clause-ready
check_records-requires-clause-ready c = search (rules, ready_kept)
