-- The walk of a list of structs, and what it has written.
use Rattle.std.specs.Prelude.{◌≡◌, true, List, [], ◌∷◌, ◌++◌, ℕ, ◌+◌, ◌*◌, ◌≤◌, ◌<◌, length, get_or}
use Rattle.lists.specs.Lists.{concat_map}
use Rattle.law_counting.specs.Counting.{count}
use Rattle.sheet.specs.Module.{TypeDef}
use Rattle.parents.specs.Forest.{entry_at, chain_length}
use Rattle.spans.specs.Spans.{under, order, no_pre, no_post, no_length, span_of}
use Rattle.law_forest.specs.Once.{ChainRule}
use Rattle.law_forest.specs.Family.{Part, Ready}
use Rattle.region.specs.Region.{Off, Frame}
use Rattle.open_sheet.specs.declared.Opened.{Opened}
use Rattle.table_spans.specs.Siblings.{in_list, members_from, Linked}

-- the walks of the members of list k, each `left` numbers deep, one after the other
unfoldable pub walks_from : ℕ → List TypeDef → ℕ → ℕ → List ℕ
walks_from left types k i = concat_map (under left types) (members_from types k i)

-- l stands in m as one piece, so many members before it
pub record Placed (l m : List ℕ) (n : ℕ) : Type 0 where
  pub part : Part l m
  pub before : length part.left ≡ n

-- the walk of list k begins when `clock` structs are entered, and may go deep enough
pub record Walks (most : ℕ) (types : List TypeDef) (k clock left : ℕ) : Type 0 where
  pub rule : ChainRule most types
  pub placed : Placed (walks_from left types k 0) (order most types) clock
  pub ready : (t : ℕ) → 1 ≤ count t (members_from types k 0) → Ready types left t
  pub level : (t : ℕ) → 1 ≤ count t (members_from types k 0) → chain_length most types t + left ≡ most + 1

-- u is v but for the spans of the members of l, which are the definition's; word j of the span of x stands at at + 1 + 3 x + j
pub record Numbered (most : ℕ) (types : List TypeDef) (at : ℕ) (l v u : List ℕ) : Type 0 where
  pub len : length u ≡ length v
  pub front : (k : ℕ) → k ≤ at → get_or u k 0 ≡ get_or v k 0
  pub words : (x : ℕ) → 1 ≤ count x l → (j : ℕ) → j < 3 → get_or u (at + 1 + 3 * x + j) 0 ≡ get_or (span_of most types x true) j 0
  pub same : (x : ℕ) → count x l ≡ 0 → (j : ℕ) → j < 3 → get_or u (at + 1 + 3 * x + j) 0 ≡ get_or v (at + 1 + 3 * x + j) 0

-- the members of list k and all below them are numbered, `left` deep
abbrev pub ListNumbered : ℕ → List TypeDef → ℕ → ℕ → ℕ → List ℕ → List ℕ → Type 0
ListNumbered most types at left k v u = Numbered most types at (walks_from left types k 0) v u

-- the walk of list k has come to t, the next member, at `now`
pub record Walking (most : ℕ) (types : List TypeDef) (o : Opened) (w : List ℕ) (at k left clock : ℕ) (v u : List ℕ) (t now : ℕ)
    : Type 0 where
  pub linked : Linked types o w
  pub walks : Walks most types k clock left
  pub room : at + 1 + 3 * o.counts.types ≤ length v
  pub done : List ℕ
  pub split : walks_from left types k 0 ≡ done ++ walks_from left types k t
  pub time : now ≡ clock + length done
  pub numbered : Numbered most types at done v u
  pub high : t ≤ length types
  pub member : t < length types → in_list k (entry_at types t) ≡ true

-- u is v but for the first n spans, which are of no struct
pub record Blank (at n : ℕ) (v u : List ℕ) : Type 0 where
  pub frame : Frame (Off (at + 1) (at + 1 + 3 * n)) v u
  pub words : (x : ℕ) → x < n → (j : ℕ) → j < 3 → get_or u (at + 1 + 3 * x + j) 0 ≡ get_or (no_pre ∷ no_post ∷ no_length ∷ []) j 0
