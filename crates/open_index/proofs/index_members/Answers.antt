use Rattle.std.proofs.Common.{arith}
use Rattle.blocks.specs.ByteLaws.{all_bytes}
use Rattle.reader.specs.ValueLaws.{list_within}
use Rattle.open_index.proofs.Indexing.{indexes_start, indexes_end, indexes_after, indexes_next, indexes_some}
use Rattle.open_index.proofs.Indexing.{indexes_length, indexes_room, indexes_in}
use Rattle.open_index.proofs.index_members.Goals as goal

pub overflow_add-p : goal.overflow_add-p
overflow_add-p g c = omega (arith, list_within _ _ _ _ c.requires.1.1.1.0)

pub loop-i-init : goal.loop-i-init
loop-i-init g c =
    indexes_start _ _ _ _ _ _ (all_bytes c.args.sheet.now (λ i. omega (arith, c.type_inv.sheet i)))
    c.requires.1.1.1.0 c.requires.1.1.1.1.1 c.word.ensures

pub overflow_cast-work : goal.overflow_cast-work
overflow_cast-work g c = omega (arith, indexes_in _ _ _ _ _ _ _ _ _ _ c.loop-i.invariant)

pub bounds-work-i : goal.bounds-work-i
bounds-work-i g c = omega (arith, indexes_room _ _ _ _ _ _ _ _ _ c.loop-i.invariant, indexes_length _ _ _ _ _ _ _ _ _ c.loop-i.invariant)

pub unwrap-p-requires : goal.unwrap-p-requires
unwrap-p-requires g c = indexes_some _ _ _ _ _ _ _ _ _ c.loop-i.invariant (omega arith) (c.requires.1.1.0 _ _ c.skip.ensures)

pub loop-i-preserved : goal.loop-i-preserved
loop-i-preserved g c =
    indexes_next _ _ _ _ _ _ _ _ _ c.loop-i.invariant (omega arith) _
    c.unwrap-p.ensures (c.requires.1.1.0 _ _ c.skip.ensures)

pub overflow_cast-work-2 : goal.overflow_cast-work-2
overflow_cast-work-2 g c = omega (arith, indexes_in _ _ _ _ _ _ _ _ _ _ c.loop-i.invariant)

pub bounds-work-end : goal.bounds-work-end
bounds-work-end g c = omega (arith, indexes_room _ _ _ _ _ _ _ _ _ c.loop-i.invariant, indexes_length _ _ _ _ _ _ _ _ _ c.loop-i.invariant)

pub returns-clause-value : goal.returns-clause-value
returns-clause-value g c = indexes_after _ _ _ _ _ _ _ _ _ c.loop-i.invariant (omega arith)

pub returns-clause-work_after : goal.returns-clause-work_after
returns-clause-work_after g c = indexes_end _ _ _ _ _ _ _ _ _ c.loop-i.invariant (omega arith)
