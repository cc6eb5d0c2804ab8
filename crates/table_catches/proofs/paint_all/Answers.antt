use mathlib.Core.Path.{ap, ◌∙◌}
use Prim.Native.Nat.{ℕ, min}
use native.Mathlib.Omega.{arith}
use borrow.Author.Rules.{rules}
use Rattle.table_catches.proofs.PaintSteps.{all_start, all_paint, all_step, all_end}
use Rattle.table_catches.proofs.paint_all.Goals as goal

pub loop-k-init : goal.loop-k-init
loop-k-init c = search (rules, all_start)

pub overflow_mul-k : goal.overflow_mul-k
overflow_mul-k c = omega arith

pub overflow_add-hs : goal.overflow_add-hs
overflow_add-hs c = omega arith

pub overflow_mul-k-in-loop-k : goal.overflow_mul-k-in-loop-k
overflow_mul-k-in-loop-k c = omega arith

pub overflow_add-hs-in-loop-k : goal.overflow_add-hs-in-loop-k
overflow_add-hs-in-loop-k c = omega arith

pub overflow_add-hs-in-loop-k-2 : goal.overflow_add-hs-in-loop-k-2
overflow_add-hs-in-loop-k-2 c = omega arith

pub paint-requires : goal.paint-requires
paint-requires c = search (rules, all_paint)

pub loop-k-preserved : goal.loop-k-preserved
loop-k-preserved c = (
  omega (arith, c.loop-k-test.true),
  all_step _ _ _ _ _ _ _ _ _ _ _ c.requires.all_in c.loop-k.invariant.1 _ _ _ _ c.loop-k-test.true
      (c.widen-start.ensures ∙ c.word.ensures)
      (c.least-stop.ensures ∙ ap (λ (z : ℕ). min z c.args.len) (c.widen.ensures ∙ c.word-in-loop-k.ensures))
      c.paint.ensures,
)

pub shape_of-table : goal.shape_of-table
shape_of-table c = c.loop-k.invariant.1.tables.len

pub shape_of-work : goal.shape_of-work
shape_of-work c = c.loop-k.invariant.1.links.len

pub returns : goal.returns
returns c = search (rules, all_end)
