use borrow.Author.Rules.{rules}
use Rattle.rule8_hooks.proofs.BoundSteps.{range_below, import_stop, import_holds, import_broken}
use Rattle.rule8_hooks.proofs.check_bound_import.Goals as goal

pub returns-in_err-in_range : goal.returns-in_err-in_range
returns-in_err-in_range c =
    let s = import_stop _ _ _ c.requires.ready c.args.h _ c.in_range.ensures (c.in_err-in_range.was {u = tt}) in
    search (rules, s)

pub import_fits-requires-clause-i_lt_imports : goal.import_fits-requires-clause-i_lt_imports
import_fits-requires-clause-i_lt_imports c = search (rules, range_below, c.in_ok-in_range.was)

pub returns-then-not-import_fits : goal.returns-then-not-import_fits
returns-then-not-import_fits c = search (rules, import_broken, c.in_ok-in_range.was)

pub returns : goal.returns
returns c = search (rules, import_holds, c.in_ok-in_range.was)
