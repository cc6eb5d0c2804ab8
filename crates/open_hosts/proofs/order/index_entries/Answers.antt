use native.Mathlib.Omega.{arith}
use borrow.Author.Rules.{rules}
use Rattle.blocks.specs.ByteLaws.{all_bytes}
use Rattle.host.specs.EntryWalk.{kind_within}
use Rattle.open_hosts.proofs.IndexSteps.{edging_start, edging_whole, edging_next, edging_end}
use Rattle.open_hosts.proofs.order.index_entries.Goals as goal

pub loop-i-init : goal.loop-i-init
loop-i-init c = edging_start _ _ _ _ c.requires.whole (all_bytes c.args.hosts.now (λ i. omega (arith, c.type_inv.hosts i)))
    c.entry_count-count.ensures c.requires.n_in_bounds

pub kind_of-p-requires : goal.kind_of-p-requires
kind_of-p-requires c = search (rules, edging_whole)

pub overflow_add-p : goal.overflow_add-p
overflow_add-p c = omega (arith, kind_within)

pub loop-i-preserved : goal.loop-i-preserved
loop-i-preserved c = edging_next _ _ _ _ _ _ _ c.loop-i.invariant c.loop-i-test.true _ _ c.put.ensures c.kind_of-p.ensures

pub returns : goal.returns
returns c = edging_end _ _ _ _ _ _ _ c.loop-i.invariant _ c.loop-i-test.false c.put-2.ensures
