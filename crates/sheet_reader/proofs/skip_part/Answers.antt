use borrow.Author.Rules.{rules}
use Rattle.std.proofs.Common.{◌∙◌}
use Rattle.reader.proofs.ListLaws.{passing, passes_next, passes_stop}
use Rattle.sheet_reader.proofs.PartLaws.{passes_taken, none_passed}
use Rattle.sheet_reader.proofs.skip_part.Goals as goal

pub returns-in_err-count : goal.returns-in_err-count
returns-in_err-count g c =
    c.from_residual.ensures ∙ none_passed _ _ _ (c.in_err-count.was {u = tt}) c.next_word.ensures

pub loop-init : goal.loop-init
loop-init g c = search (rules, passes_taken)

pub returns-in_err-p : goal.returns-in_err-p
returns-in_err-p g c =
    let k = c.requires.1.1 c.loop.p c.skip.result c.skip.ensures in
    c.from_residual-in_err-p.ensures ∙ passes_stop _ _ _ _ _ _ c.loop.invariant c.loop-test.true (c.in_err-p.was {u = tt}) k

pub loop-preserved : goal.loop-preserved
loop-preserved g c =
    let k = c.requires.1.1 c.loop.p c.skip.result c.skip.ensures in
    passes_next _ _ _ _ _ _ c.loop.invariant _ c.loop-test.true (c.in_ok-p.was {u = tt}) k

pub returns : goal.returns
returns g c = search (rules, passing)
