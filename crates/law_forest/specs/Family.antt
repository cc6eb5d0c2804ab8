-- The interval of a holds just those structs that declared parents lead from to a.
use Rattle.std.specs.Prelude.{◌≡◌, refl, ◌↔◌, Bool, true, false, ◌&&◌, T, leb, ltb, get_or}
use Rattle.std.proofs.Common.{sym, ◌∙◌, subst, arith, length-append}
use Rattle.std.proofs.Math.Path.{ap, ap₂}
use mathlib.Core.Logic.Iff.{trans as iff_trans}
use Rattle.std.proofs.Math.Decide.{ℕ_discrete}
use mathlib.Core.List.{List, [], ◌∷◌, ◌++◌, append-nil, append_assoc}
use Prim.Native.Nat.{ℕ, zero, suc, ◌+◌, ◌≤◌, ◌<◌}
use Rattle.std.proofs.Math.Dec.{leb→le, le→leb, ltb→lt, lt→ltb}
use Rattle.std.proofs.Math.ListN.{length}
use Rattle.lists.specs.Lists.{concat_map}
use Rattle.lists.specs.ListLaws.{T_true}
use Rattle.law_counting.specs.Counting.{tick, count, place, tick_is, tick_not, place_in, place_at, place_middle, get_d_place}
use Rattle.sheet.specs.Module.{TypeDef, type_at, is_struct}
use Rattle.parents.specs.Forest.{Entry, other, root, sub, entry_at, parents, walk}
use Rattle.spans.specs.Spans.{is_root, children, roots, under, order, pre, post, descends_by_span, Reaches, here, up}
use Rattle.law_forest.specs.Entries.{is_struct_entry, ends, struct_at}
use Rattle.law_forest.specs.Chain.{kind, ends_zero, ends_other, ends_up, steps, steps_short, reaches→chain, chain→reaches}
use Rattle.law_forest.specs.Once.{order_short, count_children, count_roots, count_under, once, ChainRule}

-- ── a part of a list ──

-- m stands in l as one piece
pub record Part (m l : List ℕ) : Type 0 where
  pub left : List ℕ
  pub right : List ℕ
  pub is : l ≡ left ++ (m ++ right)

abbrev pub part_self : (l : List ℕ) → Part l l
part_self l = record { left = []; right = []; is = sym (append-nil l) }

part_trans : {m l k : List ℕ} → Part m l → Part l k → Part m k
part_trans {m} a b = record {
  left = b.left ++ a.left;
  right = a.right ++ b.right;
  is = b.is ∙ ap (λ (l : List ℕ). b.left ++ (l ++ b.right)) a.is ∙ simp append_assoc;
}

abbrev pub part_fst : (m r : List ℕ) {l : List ℕ} → Part (m ++ r) l → Part m l
part_fst m r p = record { left = p.left; right = r ++ p.right; is = p.is ∙ simp append_assoc }

abbrev pub part_snd : (m r : List ℕ) {l : List ℕ} → Part (m ++ r) l → Part r l
part_snd m r p = record { left = p.left ++ m; right = p.right; is = p.is ∙ simp append_assoc }

part_cons : {m l : List ℕ} (x : ℕ) → Part m l → Part m (x ∷ l)
part_cons x a = record { left = x ∷ a.left; right = a.right; is = ap (λ (l : List ℕ). x ∷ l) a.is }

pub part_length : {m l : List ℕ} (p : Part m l) → length p.left + length m ≤ length l
part_length {m} {l} p = omega (arith, ap length p.is, length-append p.left (m ++ p.right), length-append m p.right)

-- the walk of a member is a part of the walks of all
part_concat_map : (g : ℕ → List ℕ) (x : ℕ) (l : List ℕ) → 1 ≤ count x l → Part (g x) (concat_map g l)
part_concat_map g x [] h = absurd (omega arith)
part_concat_map g x (y ∷ l) h = go (ℕ_discrete x y) (part_concat_map g x l)
  where
    go : Dec (x ≡ y) → (1 ≤ count x l → Part (g x) (concat_map g l)) → Part (g x) (g y ++ concat_map g l)
    go (yes q) ih = record { left = []; right = concat_map g l; is = rw q }
    go (no n) ih =
        let p : Part (g x) (concat_map g l) = ih (omega (arith, tick_not x y n)) in
        record { left = g y ++ p.left; right = p.right; is = ap (λ (k : List ℕ). g y ++ k) p.is ∙ simp append_assoc }

concat_map_ext : (g h : ℕ → List ℕ) (l : List ℕ) → ((x : ℕ) → 1 ≤ count x l → g x ≡ h x) → concat_map g l ≡ concat_map h l
concat_map_ext g h [] q = refl
concat_map_ext g h (y ∷ l) q = λ i. q y (omega (arith, tick_is y y refl)) i ++ concat_map_ext g h l (λ x k. q x (omega arith)) i

-- ── fuel ──

-- nothing comes to x by f steps or more
unfoldable pub Full : List TypeDef → ℕ → ℕ → Type 0
Full types f x = (y : ℕ) (r : Reaches types y x) → steps r < f

reach_snoc : (types : List TypeDef) {y c x : ℕ} → entry_at types c ≡ sub x → (r : Reaches types y c) → (r' : Reaches types y x) × (steps r' ≡ suc (steps r))
reach_snoc types k (here {t} {a} q) = (up (ap (entry_at types) q ∙ k) (here refl), refl)
reach_snoc types k (up h r) = let s = reach_snoc types k r in (up h s.0, ap suc s.1)

pub full_child : (types : List TypeDef) (f c x : ℕ) → entry_at types c ≡ sub x → Full types (suc f) x → Full types f c
unfolding Full
full_child types f c x k h y r = let s = reach_snoc types k r in omega (arith, s.1, h y s.0)

pub full_pos : (types : List TypeDef) (f x : ℕ) → Full types f x → 0 < f
unfolding Full
full_pos types f x h = h x (here refl)

pub full_rule : (lim : ℕ) (types : List TypeDef) → ChainRule lim types → (x : ℕ) → T (is_struct_entry (entry_at types x)) → Full types lim x
unfolding Full
full_rule lim types r x s y c = steps_short types lim c (r.short y (struct c))
  where
    struct : Reaches types y x → T (is_struct_entry (entry_at types y))
    struct (here q) = rw q s
    struct (up h c) = rw h tt

-- the walk from x with fuel f is a struct's, with fuel enough
abbrev pub Ready : List TypeDef → ℕ → ℕ → Type 0
Ready types f x = Full types f x × T (is_struct_entry (entry_at types x))

struct_root : (x : Entry) → 1 ≤ tick (is_root x) → T (is_struct_entry x)
unfolding is_root
struct_root other h = absurd (omega arith)
struct_root root h = tt
struct_root (sub p) h = tt

sub_of_tick : (t : ℕ) (x : Entry) → 1 ≤ count t (parents x) → x ≡ sub t
unfolding parents
sub_of_tick t other h = absurd (omega arith)
sub_of_tick t root h = absurd (omega arith)
sub_of_tick t (sub p) h = go (ℕ_discrete t p)
  where
    go : Dec (t ≡ p) → sub p ≡ sub t
    go (yes q) = ap sub (sym q)
    go (no n) = absurd (omega (arith, tick_not t p n))

and_t4 : (a b c d : Bool) → T (a && b && c && d) ↔ (T a × T b × T c × T d)
and_t4 false b c d = (λ h. absurd h, λ h. h.0)
and_t4 true false c d = (λ h. absurd h, λ h. h.1)
and_t4 true true false d = (λ h. absurd h, λ h. h.2)
and_t4 true true true d = (λ h. (tt, tt, tt, h), λ h. h.3)

module _ (lim : ℕ) (types : List TypeDef) where
  pub child_of : (t c : ℕ) → 1 ≤ count c (children types t) → entry_at types c ≡ sub t
  child_of t c h = sub_of_tick t (entry_at types c) (rw (count_children lim types t c) at h)

  child_in : (t c : ℕ) → entry_at types c ≡ sub t → 1 ≤ count c (children types t)
  unfolding parents
  child_in t c k = rw (count_children lim types t c, k) (omega (arith, tick_is t t refl))

  -- fuel enough is as good as any
  pub under_same : (f g x : ℕ) → Full types f x → Full types g x → under f types x ≡ under g types x
  unfolding under walk
  under_same zero g x h k = absurd (omega (arith, full_pos types 0 x h))
  under_same (suc f) zero x h k = absurd (omega (arith, full_pos types 0 x k))
  under_same (suc f) (suc g) x h k = ap (λ (l : List ℕ). x ∷ l)
      (concat_map_ext (under f types) (under g types) (children types x)
      (λ c m. let q = child_of x c m in under_same f g c (full_child types f c x q h) (full_child types g c x q k)))

  pub ready_child : (f t c : ℕ) → Ready types (suc f) t → 1 ≤ count c (children types t) → Ready types f c
  ready_child f t c r h = let q = child_of t c h in (full_child types f c t q r.0, rw q tt)

  part_under : (f x p : ℕ) → entry_at types x ≡ sub p → Part (under f types x) (under (suc f) types p)
  unfolding under walk
  part_under f x p k = part_cons p (part_concat_map (under f types) x (children types p) (child_in p x k))

  part_root : (x : ℕ) → entry_at types x ≡ root → Part (under lim types x) (order lim types)
  unfolding order is_root
  part_root x k = part_concat_map (under lim types) x (roots types) (rw (count_roots lim types x, k) (omega arith))

  -- the walk under x is a piece of the whole walk, made with fuel enough
  record Located (x : ℕ) : Type 0 where
    fuel : ℕ
    full : Full types fuel x
    part : Part (under fuel types x) (order lim types)

  located_child : (x p : ℕ) → entry_at types x ≡ sub p → Located p → Located x
  located_child x p k l = go l.fuel l.full l.part
    where
      go : (f : ℕ) → Full types f p → Part (under f types p) (order lim types) → Located x
      go zero h m = absurd (omega (arith, full_pos types 0 p h))
      go (suc f) h m = record { fuel = f; full = full_child types f x p k h; part = part_trans (part_under f x p k) m }

  module _ (rule : ChainRule lim types) where
    located : (f x : ℕ) → T (ends types f x) → Located x
    located zero x h = absurd (ends_zero types x h)
    located (suc f) x h = kind types x (Located x)
        (λ k. absurd (rw (ends_other types f x k) at h))
        (λ k. record { fuel = lim; full = full_rule lim types rule x (rw k tt); part = part_root x k })
        (λ p k. located_child x p k (located f p (rw (ends_up types f x p k) at h)))

    -- with the fuel of the definition
    pub part_order : (x : ℕ) → T (is_struct_entry (entry_at types x)) → Part (under lim types x) (order lim types)
    part_order x s =
        let l : Located x = located lim x (rule.short x s) in
        subst (λ (m : List ℕ). Part m (order lim types)) (under_same l.fuel lim x l.full (full_rule lim types rule x s)) l.part

    pub struct_once : (x : ℕ) → T (is_struct_entry (entry_at types x)) → count x (order lim types) ≡ 1
    struct_once x s = once lim types rule x ∙ ap tick (T_true (is_struct_entry (entry_at types x)) s)

    under_self : (f x : ℕ) → 0 < f → (m : List ℕ) × (under f types x ≡ x ∷ m)
    unfolding under walk
    under_self zero x h = absurd (omega arith)
    under_self (suc f) x h = (concat_map (under f types) (children types x), refl)

    -- the first number of the interval is where the piece begins
    pub pre_part : (x f : ℕ) → T (is_struct_entry (entry_at types x)) → 0 < f → (p : Part (under f types x) (order lim types)) → pre lim types x ≡ length p.left
    unfolding pre
    pre_part x f s h p =
        let u = under_self f x h in
        let q : order lim types ≡ p.left ++ (x ∷ (u.0 ++ p.right)) = p.is ∙ ap (λ (l : List ℕ). p.left ++ (l ++ p.right)) u.1 in
        ap (place x) q ∙ place_at x p.left (u.0 ++ p.right) (ap (count x) (sym q) ∙ struct_once x s)

    pub ready_root : (c : ℕ) → 1 ≤ count c (roots types) → Ready types lim c
    ready_root c h =
        let q = struct_root (entry_at types c) (rw (count_roots lim types c) at h) in
        (full_rule lim types rule c q, q)

    -- the interval, where a walk with fuel enough finds it
    pub pre_at : (f t k : ℕ) → Ready types f t → (p : Part (under f types t) (order lim types)) → length p.left ≡ k → pre lim types t ≡ k
    pre_at f t k r p q = pre_part t f r.1 (full_pos types f t r.0) p ∙ q

    pub post_at : (f t k : ℕ) → Ready types f t → (p : Part (under f types t) (order lim types)) → length p.left ≡ k →
        post lim types t ≡ k + length (under f types t)
    unfolding post
    post_at f t k r p q = ap₂ (λ (a b : ℕ). a + b) (pre_at f t k r p q)
        (ap length (under_same lim f t (full_rule lim types rule t r.1) r.0))

    -- the places of the structs are those of the order, each one's own
    pub pre_in : (t : ℕ) → T (is_struct_entry (entry_at types t)) → pre lim types t < length (order lim types)
    unfolding pre
    pre_in t s = place_in t (order lim types) (omega (arith, struct_once t s))

    pub pre_own : (t : ℕ) → T (is_struct_entry (entry_at types t)) → get_or (order lim types) (pre lim types t) 0 ≡ t
    unfolding pre
    pre_own t s = get_d_place t (order lim types) (omega (arith, struct_once t s))

    pub pre_inj : (s t : ℕ) → T (is_struct_entry (entry_at types s)) → T (is_struct_entry (entry_at types t)) → pre lim types s ≡ pre lim types t → s ≡ t
    pre_inj s t a b q = sym (pre_own s a) ∙ ap (λ (k : ℕ). get_or (order lim types) k 0) q ∙ pre_own t b

    -- and the interval ends within the order, so within the number of types
    pub post_in : (t : ℕ) → T (is_struct_entry (entry_at types t)) → post lim types t ≤ length types
    post_in t s =
        let p = part_order t s in
        let r : Ready types lim t = (full_rule lim types rule t s, s) in
        omega (arith, post_at lim t (length p.left) r p refl, part_length p, order_short lim types rule)

    pre_post : (t a : ℕ) → (p : Part (under lim types a) (order lim types)) → pre lim types a ≡ length p.left →
        ((pre lim types a ≤ pre lim types t) × (pre lim types t < post lim types a)) ↔
        ((length p.left ≤ place t (p.left ++ (under lim types a ++ p.right)))
        × (place t (p.left ++ (under lim types a ++ p.right)) < length p.left + length (under lim types a)))
    unfolding post pre
    pre_post t a p h = rw (← p.is, h) (λ k. k, λ k. k)

    under_reaches : (t a : ℕ) → T (is_struct_entry (entry_at types t)) → (1 ≤ count t (under lim types a)) ↔ Reaches types t a
    under_reaches t a s = rw (count_under lim types lim a t)
        (chain→reaches types lim t a, λ r. reaches→chain types lim r (rule.short t s))

    -- THE FAMILY THEOREM, for structs
    pub family : (t a : ℕ) → T (is_struct_entry (entry_at types t)) → T (is_struct_entry (entry_at types a)) →
        ((pre lim types a ≤ pre lim types t) × (pre lim types t < post lim types a)) ↔ Reaches types t a
    family t a st sa =
        let p = part_order a sa in
        let pa : pre lim types a ≡ length p.left = pre_part a lim sa (full_pos types lim a (full_rule lim types rule a sa)) p in
        let mid = place_middle t p.left (under lim types a) p.right (ap (count t) (sym p.is) ∙ struct_once t st) in
        iff_trans (pre_post t a p pa) (iff_trans (mid.1, mid.0) (under_reaches t a st))

    -- for all numbers, unknown ones too
    pub family_all : (t a : ℕ) →
        (T (is_struct_entry (entry_at types t)) × T (is_struct_entry (entry_at types a)) × (pre lim types a ≤ pre lim types t) × (pre lim types t < post lim types a)) ↔
        (T (is_struct_entry (entry_at types t)) × T (is_struct_entry (entry_at types a)) × Reaches types t a)
    family_all t a = (
      λ h. (h.0, h.1, (family t a h.0 h.1).0 (h.2, h.3)),
      λ h. let k = (family t a h.0 h.1).1 h.2 in (h.0, h.1, k.0, k.1),
    )

    -- and by the test that a reader computes
    pub family_test : (t a : ℕ) → T (descends_by_span lim types t a) ↔ (T (is_struct (type_at types t)) × T (is_struct (type_at types a)) × Reaches types t a)
    unfolding descends_by_span
    family_test t a = rw (← struct_at types t, ← struct_at types a) (iff_trans
        (and_t4 (is_struct_entry (entry_at types t)) (is_struct_entry (entry_at types a)) (leb (pre lim types a) (pre lim types t)) (ltb (pre lim types t) (post lim types a)))
        (iff_trans (
          λ h. (h.0, h.1, leb→le (pre lim types a) (pre lim types t) h.2, ltb→lt (pre lim types t) (post lim types a) h.3),
          λ h. (h.0, h.1, le→leb (pre lim types a) (pre lim types t) h.2, lt→ltb (pre lim types t) (post lim types a) h.3),
        )
        (family_all t a)))
