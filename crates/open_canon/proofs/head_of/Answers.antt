use Rattle.std.proofs.Common.{sym, ◌∙◌}
use Prim.Native.Nat.{◌+◌}
use native.Mathlib.Omega.{arith}
use Rattle.region.specs.Region.{part, word_at}
use Rattle.blocks.specs.Frame.{first_words}
use Rattle.open_canon.proofs.ScanLaws.{first_new, head_new, head_same, equal_if, apart_if}
use Rattle.open_canon.proofs.head_of.Goals as goal

pub returns-then-p-eq0 : goal.returns-then-p-eq0
returns-then-p-eq0 c =
    rw c.at-v.ensures (first_new (first_words c.args.items.bytes.now c.args.items.words)
    (part c.args.items.edges_at (c.args.items.n + 1) c.args.work.now) c.args.items.n
    (word_at c.args.work.now c.args.from) c.requires.ordered c.args.p c.requires.p_n λ h e. omega arith)

pub returns-then-same : goal.returns-then-same
returns-then-same c =
    head_same (first_words c.args.items.bytes.now c.args.items.words)
    (part c.args.items.edges_at (c.args.items.n + 1) c.args.work.now) c.args.items.n
    (word_at c.args.work.now c.args.from) c.requires.ordered _ _ _ _ c.at-before.ensures c.at-v.ensures
    (equal_if _ _ c.compare_items.ensures (sym c.if-same.true ∙ c.is_eq-same.ensures)) (c.requires.head_is (omega arith))

pub returns-else-same : goal.returns-else-same
returns-else-same c =
    head_new (first_words c.args.items.bytes.now c.args.items.words)
    (part c.args.items.edges_at (c.args.items.n + 1) c.args.work.now) c.args.items.n
    (word_at c.args.work.now c.args.from) c.requires.ordered _ _ _ c.requires.p_n c.at-before.ensures c.at-v.ensures
    (apart_if _ _ c.compare_items.ensures (sym c.if-same.false ∙ c.is_eq-same.ensures))
