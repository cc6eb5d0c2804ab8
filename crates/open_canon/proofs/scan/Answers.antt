use Rattle.std.specs.Prelude.{◌≡◌, refl, cond}
use borrow.Author.Rules.{rules}
use Rattle.open_canon.specs.ScanSteps.{scan_head, scan_edges, scan_step, scan_end}
use Rattle.open_canon.proofs.scan.Goals as goal
use Rattle.open_canon.proofs.scan.Goals.{then-own, else-own}

pub head_of-head-requires : goal.head_of-head-requires
head_of-head-requires c = search (rules, scan_head)

pub is_own-own-requires-clause-edges : goal.is_own-own-requires-clause-edges
is_own-own-requires-clause-edges c = scan_edges _ _ _ _ _ _ _ _ _ _ c.requires c.loop-p.invariant

pub loop-p-preserved : goal.loop-p-preserved
loop-p-preserved c =
    let e : c.if-own.put ≡ cond c.is_own-own.result c.at-v.result c.head_of-head.result = elim c.if-own.branch [
      | then-own w ↦ rw (w.put-is, w.if-own.true) refl
      | else-own w ↦ rw (w.put-is, w.if-own.false) refl
    ] in
    scan_step _ _ _ _ _ _ _ _ _ _ c.requires c.loop-p.invariant _ _ _ _ _ c.loop-p-test.true c.head_of-head.ensures c.at-v.ensures
    c.is_own-own.ensures e c.put.ensures

pub returns : goal.returns
returns c = search (rules, scan_end)
