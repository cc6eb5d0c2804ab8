use mathlib.Core.List.{List, [], ◌∷◌}
use mathlib.Core.Bool.{Bool, true, false}
use mathlib.Core.Path.{◌≡◌, refl, sym}
use Prim.Native.Nat.{ℕ, ◌+◌}
use native.Mathlib.Omega.{arith}
use lib.Dec.{eqb}
use Rattle.region.specs.Region.{part}
use Rattle.blocks.specs.Frame.{first_words}
use Rattle.blocks.proofs.FirstWords.{length_first_words, first_words_at}
use Rattle.sorting.specs.Items.{item}
use Rattle.sorting.proofs.Edges.{item_none, item_some, ends}
use Rattle.open_canon.specs.Numbers.{own_by}
use Rattle.open_canon.proofs.is_own.Goals as goal

own-none : (m : Bool) → own_by m [] ≡ false
own-none true = refl
own-none false = refl

own-some : (m : Bool) (a : List ℕ) (x : ℕ) (l : List ℕ) → m ≡ true → a ≡ x ∷ l → own_by m a ≡ eqb x 1
own-some m a x l e q = rw (e, q) refl

pub returns-then-at-a : goal.returns-then-at-a
returns-then-at-a c =
    rw (item_none (first_words c.args.items.bytes.now c.args.items.words) c.args.work.now c.args.items.n c.args.items.edges_at
    c.requires.edges c.args.v c.requires.v_lt_n (omega arith)) (sym (own-none c.args.marked))

pub returns : goal.returns
returns c =
    let a = c.at-a in
    let b = (first_words c.args.items.bytes.now c.args.items.words) in
    let e = ends b c.args.work.now c.args.items.n c.args.items.edges_at c.requires.edges c.args.v c.requires.v_lt_n in
    rw (
      c.word.ensures,
      ← first_words_at c.args.items.bytes.now c.args.items.words a.result
          (omega (arith, e, length_first_words c.args.items.bytes.now c.args.items.words)),
      a.ensures,
    )
    (sym (own-some c.args.marked (item b (part c.args.items.edges_at (c.args.items.n + 1) c.args.work.now) c.args.v) _ _
    (c.if-not-marked.false)
    (item_some b c.args.work.now c.args.items.n c.args.items.edges_at c.requires.edges c.args.v c.requires.v_lt_n (omega arith))))
