-- The walk of a list of structs: each member's span is stored once those below it are numbered.
use mathlib.Core.Path.{◌≡◌, refl, sym, ap, subst, ◌∙◌}
use mathlib.Core.Bool.{true}
use mathlib.Core.List.{List, [], ◌∷◌, ◌++◌, append_assoc, append-nil}
use Prim.Native.Nat.{ℕ, suc, ◌+◌, ◌-◌, ◌*◌, ◌≤◌, ◌<◌}
use native.Mathlib.Omega.{arith}
use native.Mathlib.Decide.{ℕ_discrete, dec_le}
use lib.ListN.{length, length-append, get_or}
use Rattle.lists.specs.Lists.{concat_map}
use Rattle.law_counting.specs.Counting.{count, tick_is, tick_not, count_append}
use Rattle.sheet.specs.Module.{TypeDef}
use Rattle.region.specs.Region.{Off, Frame}
use Rattle.parents.specs.Forest.{entry_at, walk, chain_length}
use Rattle.spans.specs.Spans.{under, order, pre, post, children, span_of}
use Rattle.law_forest.specs.Once.{order_short}
use Rattle.law_forest.specs.Family.{part_fst, part_snd, part_length, Ready, child_of, ready_child, full_pos, pre_at, post_at}
use Rattle.law_forest.specs.Lengths.{length_child, length_some}
use Rattle.table.proofs.TableLaws.{span_three}
use Rattle.open_sheet.specs.declared.Opened.{Opened}
use Rattle.writing.specs.Writing.{written}
use Rattle.table_spans.specs.Siblings.{in_list, members_from, first_from, Linked}
use Rattle.table_spans.specs.Walked.{walks_from, Placed, Walks, Numbered, Walking}
use Rattle.table_spans.proofs.BlankSteps.{span_frame, span_words_lem, span_others}
use Rattle.table_spans.proofs.LinkSteps.{members_in, members_end, members_count, members_children, First, first_of}

-- ── pieces ──

placed_fst : (a b m : List ℕ) (n : ℕ) → Placed (a ++ b) m n → Placed a m n
placed_fst a b m n p = record { part = part_fst a b p.part; before = p.before }

placed_snd : (a b m : List ℕ) (n k : ℕ) → Placed (a ++ b) m n → k ≡ n + length a → Placed b m k
placed_snd a b m n k p e = record { part = part_snd a b p.part; before = omega (arith, length-append p.part.left a, p.before) }

placed_is : (a b m : List ℕ) (n : ℕ) → a ≡ b → Placed a m n → Placed b m n
placed_is a b m n e p = subst (λ (l : List ℕ). Placed l m n) e p

-- ── what is stored ──

module _ (most : ℕ) (types : List TypeDef) (at : ℕ) where
  numbered_none : (v : List ℕ) → Numbered most types at [] v v
  numbered_none v = record {
    len = refl;
    front = λ k h. refl;
    words = λ x h. absurd (omega arith);
    same = λ x h j k. refl;
  }

  -- t alone
  module _ (t : ℕ) (v u : List ℕ) (room : at + 1 + 3 * t + 3 ≤ length v)
      (e : u ≡ written v (at + 1 + 3 * t) (span_of most types t true)) where
    three : length (span_of most types t true) ≡ 3
    three = span_three most types t true

    frame : Frame (Off (at + 1 + 3 * t) (at + 1 + 3 * t + length (span_of most types t true))) v u
    frame = span_frame at t (span_of most types t true) v u three room e

    own : (x : ℕ) → Dec (x ≡ t) → 1 ≤ count x (t ∷ []) → (j : ℕ) → j < 3
        → get_or u (at + 1 + 3 * x + j) 0 ≡ get_or (span_of most types x true) j 0
    own x (yes q) h j k =
        ap (λ i. get_or u (at + 1 + 3 * i + j) 0) q
        ∙ span_words_lem at t (span_of most types t true) v u three room e j k
        ∙ ap (λ i. get_or (span_of most types i true) j 0) (sym q)
    own x (no q) h j k = absurd (omega (arith, tick_not x t q))

    numbered_one : Numbered most types at (t ∷ []) v u
    numbered_one = record {
      len = frame.len;
      front = λ k h. frame.same k (λ a b. omega arith);
      words = λ x. own x (ℕ_discrete x t);
      same = λ x h. span_others at t (span_of most types t true) v u three room e x (λ q. omega (arith, tick_is x t q));
    }

  -- first l, then m; n has the members of both
  module _ (l m n v u z : List ℕ) (c : (x : ℕ) → count x n ≡ count x l + count x m) (a : Numbered most types at l v u)
      (b : Numbered most types at m u z) where
    later : (x : ℕ) → Dec (1 ≤ count x m) → 1 ≤ count x n → (j : ℕ) → j < 3
        → get_or z (at + 1 + 3 * x + j) 0 ≡ get_or (span_of most types x true) j 0
    later x (yes h) i j k = b.words x h j k
    later x (no h) i j k = b.same x (omega arith) j k ∙ a.words x (omega (arith, c x)) j k

    numbered_both : Numbered most types at n v z
    numbered_both = record {
      len = b.len ∙ a.len;
      front = λ k h. b.front k h ∙ a.front k h;
      words = λ x. later x (dec_le 1 (count x m));
      same = λ x h j k. b.same x (omega (arith, c x)) j k ∙ a.same x (omega (arith, c x)) j k;
    }

-- ── the walk of a list ──

under_first : (types : List TypeDef) (f t : ℕ) → under (suc f) types t ≡ (t ∷ []) ++ concat_map (under f types) (children types t)
unfolding under walk
under_first types f t = refl

walks_below : (types : List TypeDef) (left t : ℕ) → 0 < left → under left types t ≡ (t ∷ []) ++ walks_from (left - 1) types (t + 1) 0
unfolding walks_from
walks_below types left t h =
    let e : left ≡ suc (left - 1) = omega arith in
    ap (λ f. under f types t) e
    ∙ under_first types (left - 1) t
    ∙ ap (λ l. (t ∷ []) ++ concat_map (under (left - 1) types) l) (sym (members_children types t))

walks_in : (left : ℕ) (types : List TypeDef) (k t : ℕ) → t < length types → in_list k (entry_at types t) ≡ true
    → walks_from left types k t ≡ under left types t ++ walks_from left types k (t + 1)
unfolding walks_from
walks_in left types k t h e = ap (concat_map (under left types)) (members_in types k t h e)

walks_same : (left : ℕ) (types : List TypeDef) (k i t : ℕ) → t ≡ first_from types k i → First types k i (first_from types k i)
    → walks_from left types k i ≡ walks_from left types k t
unfolding walks_from
walks_same left types k i t e f = ap (concat_map (under left types)) (f.same ∙ ap (members_from types k) (sym e))

walks_end : (left : ℕ) (types : List TypeDef) (k t : ℕ) → length types ≤ t → walks_from left types k t ≡ []
unfolding walks_from
walks_end left types k t h = ap (concat_map (under left types)) (members_end types k t h)

-- ── the walk of a list, as the code has it ──

module _ (types : List TypeDef) (o : Opened) (w : List ℕ) (l : Linked types o w) (k : ℕ) (m : k ≤ o.counts.types) where
  pub head_room : 4 * o.layout.words + k < length w
  head_room = omega (arith, l.count, l.few, l.room)

  pub walk_start : (most at left clock : ℕ) (v : List ℕ) (t : ℕ) → Walks most types k clock left → at + 1 + 3 * o.counts.types ≤ length v
      → t ≡ get_or w (4 * o.layout.words + k) 0 → Walking most types o w at k left clock v v t clock
  walk_start most at left clock v t x room e =
      let i : t ≡ first_from types k 0 = e ∙ l.lists.head k (omega (arith, l.count)) in
      let f : First types k 0 (first_from types k 0) = first_of types k 0 (omega arith) in
      record {
        linked = l;
        walks = x;
        room = room;
        done = [];
        split = walks_same left types k 0 t i f;
        time = omega arith;
        numbered = numbered_none most types at v;
        high = omega (arith, f.high);
        member = λ h. ap (λ j. in_list k (entry_at types j)) i ∙ f.member (omega arith);
      }

module _ {most : ℕ} {types : List TypeDef} {o : Opened} {w : List ℕ} {at k left clock : ℕ} {v u : List ℕ} {t now : ℕ}
    (y : Walking most types o w at k left clock v u t now) where
  pub walk_end : o.counts.types ≤ t
      → Numbered most types at (walks_from left types k 0) v u × (now ≡ clock + length (walks_from left types k 0))
  walk_end h =
      let z : walks_from left types k t ≡ [] = walks_end left types k t (omega (arith, y.linked.count)) in
      let e : y.done ≡ walks_from left types k 0 = sym (y.split ∙ ap (λ l. y.done ++ l) z ∙ append-nil y.done) in
      (subst (λ l. Numbered most types at l v u) e y.numbered, y.time ∙ ap (λ l. clock + length l) e)

  module _ (h : t < o.counts.types) where
    is_type : t < length types
    is_type = omega (arith, y.linked.count)

    in_list_lem : 1 ≤ count t (members_from types k 0)
    in_list_lem = rw (members_count types k t, y.member is_type) (omega arith)

    is_ready : Ready types left t
    is_ready = y.walks.ready t in_list_lem

    pub left_some : 0 < left
    left_some = full_pos types left t is_ready.0

    pub left_few : left ≤ most
    left_few = omega (arith, y.walks.level t in_list_lem, length_some most types y.walks.rule t is_ready.1)

    whole : walks_from left types k t ≡ under left types t ++ walks_from left types k (t + 1)
    whole = walks_in left types k t is_type (y.member is_type)

    node : Placed (under left types t) (order most types) now
    node =
        placed_fst (under left types t) (walks_from left types k (t + 1)) (order most types) now
        (placed_is (walks_from left types k t) (under left types t ++ walks_from left types k (t + 1)) (order most types) now whole
        (placed_snd y.done (walks_from left types k t) (order most types) clock now
        (placed_is (walks_from left types k 0) (y.done ++ walks_from left types k t) (order most types) clock y.split y.walks.placed)
        y.time))

    -- ── those below t ──

    abbrev lower : List ℕ
    lower = walks_from (left - 1) types (t + 1) 0

    below : under left types t ≡ (t ∷ []) ++ lower
    below = walks_below types left t left_some

    below_length : length (under left types t) ≡ 1 + length lower
    below_length = ap length below ∙ omega (arith, length-append (t ∷ []) lower)

    -- no more structs than types
    in_time : now + 1 + length lower ≤ o.counts.types
    in_time =
        omega (arith, below_length, part_length node.part, node.before, order_short most types y.walks.rule, y.linked.count)

    pub clock_few : now < o.counts.types
    clock_few = omega (arith, in_time)

    pub entered : Walks most types (t + 1) (now + 1) (left - 1)
    entered = record {
      rule = y.walks.rule;
      placed = placed_snd (t ∷ []) lower (order most types) now (now + 1)
          (placed_is (under left types t) ((t ∷ []) ++ lower) (order most types) now below node)
          (omega arith);
      ready = λ c m.
          let e : left ≡ suc (left - 1) = omega (arith, left_some) in
          ready_child most types (left - 1) t c (subst (λ f. Ready types f t) e is_ready) (child c m);
      level = λ c m.
          let longer = length_child most types y.walks.rule c t (child_of most types t c (child c m)) in
          omega (arith, left_some, y.walks.level t in_list_lem);
    }
      where
        child : (c : ℕ) → 1 ≤ count c (members_from types (t + 1) 0) → 1 ≤ count c (children types t)
        child c m = subst (λ l. 1 ≤ count c l) (members_children types t) m

    -- ── the next member ──

    pub sibling_room : 6 * o.layout.words + t < length w
    sibling_room = omega (arith, y.linked.count, y.linked.few, y.linked.room)

    sibling : (s : ℕ) → s ≡ get_or w (6 * o.layout.words + t) 0 → s ≡ first_from types k (t + 1)
    sibling s e = e ∙ y.linked.lists.next k t (omega arith) is_type (y.member is_type)

    following : First types k (t + 1) (first_from types k (t + 1))
    following = first_of types k (t + 1) (omega (arith, is_type))

    pub rising : (s : ℕ) → s ≡ get_or w (6 * o.layout.words + t) 0 → o.counts.types - s < o.counts.types - t
    rising s e = omega (arith, sibling s e, following.low)

    -- ── those below t are numbered, and the clock is r ──

    module _ (b : List ℕ) (r : ℕ) (q : Numbered most types at lower u b) (g : r ≡ now + 1 + length lower) where
      pub span_room : at + 1 + 3 * t + 3 ≤ length b
      span_room = omega (arith, y.room, y.numbered.len, q.len)

      pub after_few : r ≤ o.counts.types
      after_few = omega (arith, in_time)

      -- what the code stores is the definition's
      span_is : (n : ℕ) → n + left ≡ most + 1 → now ∷ r ∷ n ∷ [] ≡ span_of most types t true
      unfolding span_of
      span_is n i =
          let a : pre most types t ≡ now = pre_at most types y.walks.rule left t now is_ready node.part node.before in
          let p = post_at most types y.walks.rule left t now is_ready node.part node.before in
          let c : post most types t ≡ r = omega (arith, below_length) in
          let d : chain_length most types t ≡ n = omega (arith, y.walks.level t in_list_lem) in
          sym (λ i. a i ∷ c i ∷ d i ∷ [])

      -- the span of t is stored
      module _ (d : List ℕ) (n : ℕ) (i : n + left ≡ most + 1) (e : d ≡ written b (at + 1 + 3 * t) (now ∷ r ∷ n ∷ [])) where
        numbered_node : Numbered most types at (under left types t) u d
        numbered_node = subst (λ l. Numbered most types at l u d) (sym below)
            (numbered_both most types at lower (t ∷ []) ((t ∷ []) ++ lower) u b d (λ x. omega arith) q
            (numbered_one most types at t b d span_room (e ∙ ap (written b (at + 1 + 3 * t)) (span_is n i))))

        numbered_next : Numbered most types at (y.done ++ under left types t) v d
        numbered_next = numbered_both most types at y.done (under left types t) (y.done ++ under left types t) v u d
            (λ x. count_append x y.done (under left types t))
            y.numbered
            numbered_node

        pub walk_next : (s : ℕ) → s ≡ get_or w (6 * o.layout.words + t) 0 → Walking most types o w at k left clock v d s r
        walk_next s j = record {
          linked = y.linked;
          walks = y.walks;
          room = y.room;
          done = y.done ++ under left types t;
          split =
              y.split
              ∙ ap (λ l. y.done ++ l) whole
              ∙ sym (append_assoc y.done (under left types t) (walks_from left types k (t + 1)))
              ∙ ap (λ l. (y.done ++ under left types t) ++ l) (walks_same left types k (t + 1) s (sibling s j) following);
          time = omega (arith, y.time, below_length, length-append y.done (under left types t));
          numbered = numbered_next;
          high = omega (arith, sibling s j, following.high);
          member = λ l. ap (λ x. in_list k (entry_at types x)) (sibling s j) ∙ following.member (omega (arith, sibling s j));
        }
