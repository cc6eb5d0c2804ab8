-- Lists of structs: their members from a number on, and how they are linked, from the last number down.
use mathlib.Core.Path.{◌≡◌, refl, sym, ap, ap₂, subst, ◌∙◌}
use mathlib.Core.Bool.{Bool, true, false, cond}
use mathlib.Core.List.{List, [], ◌∷◌}
use Rattle.std.specs.Prelude.{Option, None, Some}
use Prim.Native.Nat.{ℕ, zero, suc, ◌+◌, ◌-◌, ◌*◌, ◌≤◌, ◌<◌}
use native.Mathlib.Omega.{arith}
use native.Mathlib.Numerals.{add-one}
use native.Mathlib.Decide.{ℕ_discrete}
use lib.ListN.{length, get_or, drop, set, length-set, drop_of_length-le}
use lib.Seq.{drop-cons, get_or-set_same, get_or-set_other}
use borrow.Author.Tests.{eq-eqb, ne_eqb}
use Rattle.lists.specs.Lists.{places_from}
use Rattle.lists.specs.ListLaws.{T_true}
use Rattle.law_counting.specs.Counting.{count, tick}
use Rattle.law_counting.specs.Places.{count_places}
use Rattle.region.specs.Region.{Off, Frame, word_at}
use Rattle.region.specs.RegionLaws.{frame_refl, frame_then}
use Rattle.sheet.specs.Module.{Struct, TypeDef, coroutine, Module, struct_of, is_struct, type_at}
use Rattle.open_layout.specs.Opened.{module_in}
use Rattle.open_sheet.specs.declared.Opened.{Opened}
use Rattle.open_sheet.specs.Ready.{Ready}
use Rattle.open_sheet.specs.ReadyLaws.{count_types, types_inside, ready_below}
use Rattle.parents.specs.Forest.{Entry, other, root, sub, struct_entry, entry_of, entry, entry_at}
use Rattle.sheet.specs.Editions.{most_of}
use Rattle.parents.specs.Parents.{parents_faults}
use Rattle.rule3_parents.specs.Child.{parent_of, parent_word}
use Rattle.spans.specs.Spans.{is_root, is_child_of, numbers_of, roots, children}
use Rattle.law_forest.specs.Entries.{is_struct_entry, struct_entry_lem}
use Rattle.law_forest.specs.Accepted.{children_kept}
use Rattle.sheet.specs.TypeLaws.{struct_known}
use Rattle.table_spans.specs.Siblings.{in_list, members_from, head_or, first_from, Linking, Linked}

-- ── the members from a number on ──

module _ (types : List TypeDef) (k : ℕ) where
  abbrev passes : TypeDef → Bool
  passes d = in_list k (entry d)

  pub members_end : (i : ℕ) → length types ≤ i → members_from types k i ≡ []
  unfolding members_from
  members_end i h = ap (places_from i passes) (drop_of_length-le types h)

  members_step : (i : ℕ) → i < length types → members_from types k i ≡ cond (in_list k (entry_at types i)) (i ∷ members_from types k (i + 1)) (members_from types k (i + 1))
  unfolding members_from entry_at type_at
  members_step i h =
      ap (places_from i passes) (drop-cons types i coroutine h)
      ∙ ap (λ j. cond (passes (get_or types i coroutine)) (i ∷ places_from j passes (drop j types)) (places_from j passes (drop j types))) (sym (add-one i))

  pub members_in : (i : ℕ) → i < length types → in_list k (entry_at types i) ≡ true → members_from types k i ≡ i ∷ members_from types k (i + 1)
  members_in i h e = members_step i h ∙ ap (λ b. cond b (i ∷ members_from types k (i + 1)) (members_from types k (i + 1))) e

  members_out : (i : ℕ) → i < length types → in_list k (entry_at types i) ≡ false → members_from types k i ≡ members_from types k (i + 1)
  members_out i h e = members_step i h ∙ ap (λ b. cond b (i ∷ members_from types k (i + 1)) (members_from types k (i + 1))) e

  -- ── the first of them ──

  pub first_end : (i : ℕ) → length types ≤ i → first_from types k i ≡ length types
  unfolding first_from
  first_end i h = ap (head_or (length types)) (members_end i h)

  pub first_in : (i : ℕ) → i < length types → in_list k (entry_at types i) ≡ true → first_from types k i ≡ i
  unfolding first_from
  first_in i h e = ap (head_or (length types)) (members_in i h e)

  pub first_out : (i : ℕ) → i < length types → in_list k (entry_at types i) ≡ false → first_from types k i ≡ first_from types k (i + 1)
  unfolding first_from
  first_out i h e = ap (head_or (length types)) (members_out i h e)

  -- c is the first member from i on, or the number of types
  pub record First (i c : ℕ) : Type 0 where
    pub low : i ≤ c
    pub high : c ≤ length types
    pub same : members_from types k i ≡ members_from types k c
    pub member : c < length types → in_list k (entry_at types c) ≡ true

  first_by : (m i : ℕ) → i + m ≡ length types → First i (first_from types k i)
  first_by zero i h =
      let e : first_from types k i ≡ length types = first_end i (omega arith) in
      record {
        low = omega (arith, e);
        high = omega (arith, e);
        same = members_end i (omega arith) ∙ sym (members_end (first_from types k i) (omega (arith, e)));
        member = λ l. absurd (omega (arith, e));
      }
  first_by (suc m) i h = go (in_list k (entry_at types i)) refl (first_by m (i + 1) (omega arith))
    where
      go : (b : Bool) → in_list k (entry_at types i) ≡ b → First (i + 1) (first_from types k (i + 1)) → First i (first_from types k i)
      go true e f =
          let q : first_from types k i ≡ i = first_in i (omega arith) e in
          record {
            low = omega (arith, q);
            high = omega (arith, q);
            same = ap (members_from types k) (sym q);
            member = λ l. ap (λ j. in_list k (entry_at types j)) q ∙ e;
          }
      go false e f =
          let q : first_from types k i ≡ first_from types k (i + 1) = first_out i (omega arith) e in
          record {
            low = omega (arith, q, f.low);
            high = omega (arith, q, f.high);
            same = members_out i (omega arith) e ∙ f.same ∙ ap (members_from types k) (sym q);
            member = λ l. ap (λ j. in_list k (entry_at types j)) q ∙ f.member (omega (arith, q));
          }

  pub first_of : (i : ℕ) → i ≤ length types → First i (first_from types k i)
  first_of i h = first_by (length types - i) i (omega arith)

other_none : (k : ℕ) → in_list k other ≡ false
unfolding in_list is_root is_child_of
other_none zero = refl
other_none (suc k) = refl

pub members_count : (types : List TypeDef) (k t : ℕ) → count t (members_from types k 0) ≡ tick (in_list k (entry_at types t))
unfolding members_from entry_at type_at
members_count types k t = count_places (λ d. in_list k (entry d)) coroutine (unfold entry entry_of struct_of in other_none k) types t

pub members_roots : (types : List TypeDef) → members_from types 0 0 ≡ roots types
unfolding members_from roots numbers_of in_list
members_roots types = refl

pub members_children : (types : List TypeDef) (p : ℕ) → members_from types (p + 1) 0 ≡ children types p
unfolding members_from children numbers_of in_list
members_children types p = ap (λ k. places_from 0 (λ d. in_list k (entry d)) types) (add-one p)

-- ── what list a type is in ──

-- a type that is no struct is in none
pub other_out : (d : TypeDef) → is_struct d ≡ false → (k : ℕ) → in_list k (entry d) ≡ false
other_out d e k = go (entry d) (struct_entry_lem d ∙ e)
  where
    go : (x : Entry) → is_struct_entry x ≡ false → in_list k x ≡ false
    go other h = other_none k
    go root h = let z : ◌≡◌ {A = ℕ} 0 1 = cc in absurd (omega arith)
    go (sub p) h = let z : ◌≡◌ {A = ℕ} 0 1 = cc in absurd (omega arith)

-- a struct is in the list of its parent word
plus_own : (p : ℕ) → in_list p (struct_entry p) ≡ true
unfolding in_list struct_entry is_root is_child_of
plus_own zero = refl
plus_own (suc p) = eq-eqb p p refl

plus_only : (k p : ℕ) → (k ≡ p → ⊥) → in_list k (struct_entry p) ≡ false
unfolding in_list struct_entry is_root is_child_of
plus_only zero zero h = absurd (h refl)
plus_only zero (suc p) h = refl
plus_only (suc k) zero h = refl
plus_only (suc k) (suc p) h = ne_eqb k p (λ e. h (ap suc e))

-- by what is a struct
module _ (d : TypeDef) where
  pub struct_own : is_struct d ≡ true → in_list (parent_word d) (entry d) ≡ true
  unfolding parent_word entry
  struct_own e = go (struct_of d) (struct_entry_lem d ∙ e)
    where
      go : (s : Option Struct) → is_struct_entry (entry_of s) ≡ true → in_list (parent_of s) (entry_of s) ≡ true
      go None h = unfold entry_of in let z : ◌≡◌ {A = ℕ} 0 1 = cc in absurd (omega arith)
      go (Some s) h = unfold entry_of parent_of in plus_own s.parent+

  pub struct_only : (k : ℕ) → (k ≡ parent_word d → ⊥) → in_list k (entry d) ≡ false
  unfolding parent_word entry
  struct_only k h = go (struct_of d) h
    where
      go : (s : Option Struct) → (k ≡ parent_of s → ⊥) → in_list k (entry_of s) ≡ false
      go None h = unfold entry_of in other_none k
      go (Some s) h = unfold entry_of parent_of in plus_only k s.parent+ h

  word_sub : (p : ℕ) → parent_word d ≡ suc p → entry d ≡ sub p
  unfolding parent_word entry
  word_sub p e = go (struct_of d) e
    where
      go : (s : Option Struct) → parent_of s ≡ suc p → entry_of s ≡ sub p
      go None e = unfold parent_of in let z : 0 ≡ suc p = e in absurd (omega arith)
      go (Some s) e = unfold entry_of parent_of struct_entry in ap struct_entry e

-- the list of a parent is one of those linked
pub parent_few : (most : ℕ) (m : Module) → parents_faults most m ≡ [] → (t : ℕ) → parent_word (type_at m.types t) ≤ length m.types
parent_few most m e t = go (parent_word (type_at m.types t)) refl
  where
    go : (p : ℕ) → parent_word (type_at m.types t) ≡ p → p ≤ length m.types
    go zero k = omega arith
    go (suc p) k = struct_known m.types p (T_true (is_struct (type_at m.types p)) (children_kept most m e t p (unfold entry_at in word_sub (type_at m.types t) p k)).struct)

-- ── one more type ──

other_at : (types : List TypeDef) (t : ℕ) → is_struct (type_at types t) ≡ false → (k : ℕ) → in_list k (entry_at types t) ≡ false
unfolding entry_at
other_at types t e k = other_out (type_at types t) e k

module _ (types : List TypeDef) (n t : ℕ) (w : List ℕ) (x : Linking types n (t + 1) w) (h : t < length types) where
  pub linking_other : is_struct (type_at types t) ≡ false → Linking types n t w
  linking_other e = record {
    head = λ k l. x.head k l ∙ sym (first_out types k t h (other_at types t e k));
    next = λ k s a b m. go k s a b m (ℕ_discrete s t);
  }
    where
      go : (k s : ℕ) → t ≤ s → s < length types → in_list k (entry_at types s) ≡ true → Dec (s ≡ t) → get_or w (6 * n + s) 0 ≡ first_from types k (s + 1)
      go k s a b m (yes q) =
          let z : false ≡ true = sym (other_at types t e k) ∙ ap (λ j. in_list k (entry_at types j)) (sym q) ∙ m in
          let y : ◌≡◌ {A = ℕ} 0 1 = cc in absurd (omega arith)
      go k s a b m (no q) = x.next k s (omega arith) b m

  module _ (r : ℕ) (u v : List ℕ) (few : length types < n) (room : 8 * n ≤ length w) (low : r ≤ length types)
      (e : is_struct (type_at types t) ≡ true) (g : r ≡ parent_word (type_at types t)) (p : u ≡ set w (6 * n + t) (get_or w (4 * n + r) 0)) (q : v ≡ set u (4 * n + r) t) where
    own : in_list r (entry_at types t) ≡ true
    unfolding entry_at
    own = ap (λ j. in_list j (entry (type_at types t))) g ∙ struct_own (type_at types t) e

    only : (k : ℕ) → (k ≡ r → ⊥) → in_list k (entry_at types t) ≡ false
    unfolding entry_at
    only k a = struct_only (type_at types t) k (λ b. a (b ∙ sym g))

    long : length u ≡ length w
    long = ap length p ∙ length-set w (6 * n + t) (get_or w (4 * n + r) 0)

    at_new : (j : ℕ) → j ≡ 4 * n + r → get_or v j 0 ≡ t
    at_new j a = ap (λ l. get_or l j 0) q ∙ ap (λ i. get_or (set u (4 * n + r) t) i 0) a ∙ get_or-set_same u (4 * n + r) t 0 (omega (arith, long))

    at_next : (j : ℕ) → j ≡ 6 * n + t → get_or v j 0 ≡ get_or w (4 * n + r) 0
    at_next j a =
        ap (λ l. get_or l j 0) q
        ∙ get_or-set_other u (4 * n + r) j t 0 (omega arith)
        ∙ ap (λ l. get_or l j 0) p
        ∙ ap (λ i. get_or (set w (6 * n + t) (get_or w (4 * n + r) 0)) i 0) a
        ∙ get_or-set_same w (6 * n + t) (get_or w (4 * n + r) 0) 0 (omega arith)

    at_old : (j : ℕ) → (j ≡ 4 * n + r → ⊥) → (j ≡ 6 * n + t → ⊥) → get_or v j 0 ≡ get_or w j 0
    at_old j a b =
        ap (λ l. get_or l j 0) q ∙ get_or-set_other u (4 * n + r) j t 0 a
        ∙ ap (λ l. get_or l j 0) p ∙ get_or-set_other w (6 * n + t) j (get_or w (4 * n + r) 0) 0 b

    pub linking_struct : Linking types n t v
    linking_struct = record {
      head = λ k l. front k l (ℕ_discrete k r);
      next = λ k s a b m. behind k s a b m (ℕ_discrete s t) (ℕ_discrete k r);
    }
      where
        front : (k : ℕ) → k ≤ length types → Dec (k ≡ r) → get_or v (4 * n + k) 0 ≡ first_from types k t
        front k l (yes z) = at_new (4 * n + k) (omega arith) ∙ sym (first_in types k t h (ap (λ j. in_list j (entry_at types t)) z ∙ own))
        front k l (no z) = at_old (4 * n + k) (omega arith) (omega arith) ∙ x.head k l ∙ sym (first_out types k t h (only k z))

        behind : (k s : ℕ) → t ≤ s → s < length types → in_list k (entry_at types s) ≡ true → Dec (s ≡ t) → Dec (k ≡ r) → get_or v (6 * n + s) 0 ≡ first_from types k (s + 1)
        behind k s a b m (yes y) (yes z) = at_next (6 * n + s) (omega arith) ∙ x.head r low ∙ ap₂ (λ i j. first_from types i (j + 1)) (sym z) (sym y)
        behind k s a b m (yes y) (no z) =
            let f : false ≡ true = sym (only k z) ∙ ap (λ j. in_list k (entry_at types j)) (sym y) ∙ m in
            let c : ◌≡◌ {A = ℕ} 0 1 = cc in absurd (omega arith)
        behind k s a b m (no y) z = at_old (6 * n + s) (omega arith) (omega arith) ∙ x.next k s (omega arith) b m

    pub linking_frame : Frame (λ k. Off (4 * n) (5 * n) k × (k < 6 * n)) w v
    linking_frame = record {
      len = ap length q ∙ length-set u (4 * n + r) t ∙ long;
      same = λ k l. at_old k (λ a. l.0 (omega arith) (omega arith)) (omega arith);
    }

-- ── all types ──

pub linking_start : (types : List TypeDef) (n : ℕ) (w : List ℕ) → ((k : ℕ) → k < length types + 1 → get_or w (4 * n + k) 0 ≡ length types) → Linking types n (length types) w
linking_start types n w h = record {
  head = λ k l. h k (omega arith) ∙ sym (first_end types k (length types) (omega arith));
  next = λ k s a b m. absurd (omega arith);
}

-- the types from t on are linked, and all is as it was but for the lists
pub record Links (ws : List ℕ) (o : Opened) (w v : List ℕ) (t : ℕ) : Type 0 where
  pub ready : Ready ws v o
  pub linking : Linking (module_in ws).types o.layout.words t v
  pub frame : Frame (λ k. Off (4 * o.layout.words) (5 * o.layout.words) k × (k < 6 * o.layout.words)) w v
  pub low : t ≤ o.counts.types

module _ (ws w : List ℕ) (o : Opened) (x : Ready ws w o) where
  pub types_few : length (module_in ws).types < o.layout.words
  types_few = omega (arith, types_inside ws w o x)

  pub counted : o.counts.types ≡ length (module_in ws).types
  counted = count_types ws o x.opens

  pub links_start : (v : List ℕ) → Frame (Off (4 * o.layout.words) (4 * o.layout.words + (o.counts.types + 1))) w v
      → ((k : ℕ) → k < o.counts.types + 1 → word_at v (4 * o.layout.words) k ≡ o.counts.types) → Links ws o v v (o.counts.types - 0)
  links_start v f g =
      let e : length (module_in ws).types ≡ o.counts.types - 0 = omega (arith, counted) in
      record {
        ready = ready_below ws w o x v (record { len = f.len; same = λ k h. f.same k (λ a b. omega arith) });
        linking = subst (λ t. Linking (module_in ws).types o.layout.words t v) e
            (linking_start (module_in ws).types o.layout.words v (λ k h. g k (omega (arith, counted)) ∙ counted));
        frame = frame_refl (λ k. Off (4 * o.layout.words) (5 * o.layout.words) k × (k < 6 * o.layout.words)) v;
        low = omega arith;
      }

  -- of n types the last i are linked
  module _ (z v : List ℕ) (n i : ℕ) (l : Links ws o z v (n - i)) (h : i < n) where
    pub links_next : (u : List ℕ) → Linking (module_in ws).types o.layout.words (n - 1 - i) u
        → Frame (λ k. Off (4 * o.layout.words) (5 * o.layout.words) k × (k < 6 * o.layout.words)) v u → Links ws o z u (n - (i + 1))
    links_next u y f =
        let e : n - 1 - i ≡ n - (i + 1) = omega arith in
        record {
          ready = ready_below ws v o l.ready u (record { len = f.len; same = λ k b. f.same k ((λ a c. omega arith), omega arith) });
          linking = subst (λ t. Linking (module_in ws).types o.layout.words t u) e y;
          frame = frame_then P P P z v u (λ k p. p) (λ k p. p) l.frame f;
          low = omega (arith, l.low);
        }
      where
        P : ℕ → Type 0
        P k = Off (4 * o.layout.words) (5 * o.layout.words) k × (k < 6 * o.layout.words)

    pub links_down : Linking (module_in ws).types o.layout.words (n - 1 - i + 1) v
    links_down = let e : n - i ≡ n - 1 - i + 1 = omega arith in subst (λ t. Linking (module_in ws).types o.layout.words t v) e l.linking

  pub links_length : (z v : List ℕ) (t : ℕ) → Frame (Off (4 * o.layout.words) (4 * o.layout.words + (o.counts.types + 1))) w z → Links ws o z v t → length v ≡ length w
  links_length z v t f l = l.frame.len ∙ f.len

  pub links_end : (z v : List ℕ) (t : ℕ) → Frame (Off (4 * o.layout.words) (4 * o.layout.words + (o.counts.types + 1))) w z → Links ws o z v t → t ≤ 0
      → Linked (module_in ws).types o v × Frame (λ k. Off (4 * o.layout.words) (5 * o.layout.words) k × (k < 6 * o.layout.words)) w v
  links_end z v t f l h =
      let e : t ≡ 0 = omega arith in (
        record {
          count = counted;
          few = types_few;
          room = omega (arith, l.ready.room);
          lists = subst (λ i. Linking (module_in ws).types o.layout.words i v) e l.linking;
        },
        record {
          len = links_length z v t f l;
          same = λ k p. l.frame.same k p ∙ f.same k (λ a b. p.0 a (omega (arith, types_few, counted)));
        },
      )

-- ── as the code has it ──

module _ (ws w : List ℕ) (o : Opened) (x : Ready ws w o) (e : parents_faults (most_of (module_in ws)) (module_in ws) ≡ []) (t : ℕ) where
  word_few : {p r : ℕ} → p ≡ parent_word (type_at (module_in ws).types t) → r ≡ p → r ≤ length (module_in ws).types
  word_few g h = omega (arith, parent_few (most_of (module_in ws)) (module_in ws) e t)

  pub list_room : {p r : ℕ} → p ≡ parent_word (type_at (module_in ws).types t) → r ≡ p → 4 * o.layout.words + r < length w
  list_room g h = omega (arith, word_few g h, types_few ws w o x, x.room)

  pub list_still : {p r : ℕ} (u : List ℕ) → p ≡ parent_word (type_at (module_in ws).types t) → r ≡ p → u ≡ set w (6 * o.layout.words + t) (get_or w (4 * o.layout.words + r) 0)
      → 4 * o.layout.words + r < length u
  list_still {p} {r} u g h e = omega (arith, list_room g h, ap length e, length-set w (6 * o.layout.words + t) (get_or w (4 * o.layout.words + r) 0))

  pub next_room : t < o.counts.types → 6 * o.layout.words + t < length w
  next_room h = omega (arith, counted ws w o x, types_few ws w o x, x.room)

  pub link_done : {b : Bool} {p r : ℕ} (u v : List ℕ) → t < o.counts.types → Linking (module_in ws).types o.layout.words (t + 1) w → b ≡ true → b ≡ is_struct (type_at (module_in ws).types t)
      → p ≡ parent_word (type_at (module_in ws).types t) → r ≡ p → u ≡ set w (6 * o.layout.words + t) (get_or w (4 * o.layout.words + r) 0) → v ≡ set u (4 * o.layout.words + r) t
      → Linking (module_in ws).types o.layout.words t v × Frame (λ k. Off (4 * o.layout.words) (5 * o.layout.words) k × (k < 6 * o.layout.words)) w v
  link_done {b} {p} {r} u v h l a d g k f y =
      let lt : t < length (module_in ws).types = omega (arith, counted ws w o x) in
      let rm : 8 * o.layout.words ≤ length w = omega (arith, x.room) in (
        linking_struct (module_in ws).types o.layout.words t w l lt r u v (types_few ws w o x) rm (word_few g k) (sym d ∙ a) (k ∙ g) f y,
        linking_frame (module_in ws).types o.layout.words t w l lt r u v (types_few ws w o x) rm (word_few g k) (sym d ∙ a) (k ∙ g) f y,
      )

  pub link_passed : {b : Bool} → t < o.counts.types → Linking (module_in ws).types o.layout.words (t + 1) w → b ≡ false → b ≡ is_struct (type_at (module_in ws).types t)
      → Linking (module_in ws).types o.layout.words t w × Frame (λ k. Off (4 * o.layout.words) (5 * o.layout.words) k × (k < 6 * o.layout.words)) w w
  link_passed h l a d = (
    linking_other (module_in ws).types o.layout.words t w l (omega (arith, counted ws w o x)) (sym d ∙ a),
    frame_refl (λ k. Off (4 * o.layout.words) (5 * o.layout.words) k × (k < 6 * o.layout.words)) w,
  )
