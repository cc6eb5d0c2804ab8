use borrow.Author.Rules.{rules}
use Rattle.open_sheet.specs.ReadyLaws.{captures_room}
use Rattle.rule8_start.proofs.StartSteps.{range_below, bad_start, start_holds, start_captures, start_missing}
use Rattle.rule8_start.proofs.check_start_function.Goals as goal

pub returns-in_err-func_in : goal.returns-in_err-func_in
returns-in_err-func_in c =
    let s = start_missing _ _ _ _ c.requires.ready c.func_in.ensures (c.in_err-func_in.was {u = tt}) in
    search (rules, s)

pub is_start-requires-clause-f_lt_funcs : goal.is_start-requires-clause-f_lt_funcs
is_start-requires-clause-f_lt_funcs c = search (rules, range_below, c.in_ok-func_in.was)

pub returns-then-not-is_start : goal.returns-then-not-is_start
returns-then-not-is_start c = search (rules, bad_start, range_below, c.in_ok-func_in.was)

pub at-requires : goal.at-requires
at-requires c = search (rules, captures_room, range_below, c.in_ok-func_in.was)

pub returns-then-at-ne0 : goal.returns-then-at-ne0
returns-then-at-ne0 c = search (rules, start_captures, range_below, c.in_ok-func_in.was)

pub returns : goal.returns
returns c = search (rules, start_holds, range_below, c.in_ok-func_in.was)
