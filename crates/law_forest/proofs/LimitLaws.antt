-- The parent rules are right under every limit from 1 up; the two editions cite that.
use Prim.Native.Nat.{ℕ, zero, suc, ◌+◌, ◌≤◌, ◌<◌, min}
use Rattle.std.specs.Prelude.{◌≡◌, refl, ◌↔◌, Bool, true, false, cond, ◌&&◌, eqb, leb, take}
use Rattle.std.proofs.Common.{sym, ap₂, subst, ◌∙◌, leb-true, leb-false}
use Rattle.std.proofs.Math.Path.{ap}
use mathlib.Core.List.{List, [], ◌∷◌, ◌++◌, map}
use native.Mathlib.Omega.{arith}
use Rattle.std.proofs.Math.Decide.{dec_lt}
use Rattle.std.proofs.Math.Dec.{T, leb→le}
use Rattle.std.proofs.Math.ListN.{length, length-map}
use Rattle.lists.specs.Lists.{from, keep, concat_map_from, is_front}
use Rattle.lists.specs.ListLaws.{both, length_from, T_of}
use Rattle.law_counting.specs.Counting.{tick, count}
use Rattle.law_counting.specs.Places.{map_from_at}
use Rattle.law_faults.specs.Empty.{map_empty, every_from}
use Rattle.error.specs.declared.LoadErrorKind.{LoadErrorKind}
use Rattle.error.specs.declared.LoadErrorKind.TheVariants.{BadParent, InheritanceTooDeep}
use Rattle.error.specs.Answer.{in_module, unless}
use Rattle.sheet.specs.Module.{TypeDef, struct, coroutine, Module, kind_word, struct_of, type_at, is_struct}
use Rattle.sheet.specs.Editions.{most_on_chain}
use Rattle.sheet.proofs.EditionLaws.{most_from_one}
use Rattle.parents.specs.Forest.{root, sub, struct_entry, entry_of, entry, entry_at, parents, chain, walk}
use Rattle.parents.specs.Parents.{field_words, fields_first, short_chain, child_faults, parent_faults, parents_faults}
use Rattle.spans.specs.Spans.{order, Reaches, here, up}
use Rattle.law_forest.specs.Entries.{is_struct_entry, ends, struct_at}
use Rattle.law_forest.specs.Chain.{kind, chain_up, chain_stop, ends_zero, ends_up, ends_struct}
use Rattle.law_forest.specs.Once.{ChainRule, once}
use Rattle.law_forest.specs.Accepted.{children_kept}
use Rattle.law_forest.proofs.AcceptedLaws.{chain_rule, families}
use Rattle.law_forest.specs.Limits.{is_fit, ChildRight, KeptRight, one_chain, ParentsRight, RightUnderAll}

-- ── a type with a parent ──

-- the three tests in their order
abbrev tests : Bool → Bool → Bool → List LoadErrorKind
tests a b c = unless a BadParent ++ unless b BadParent ++ unless c InheritanceTooDeep

unfit_first : (a b c : Bool) → (a && b) ≡ false → take 1 (tests a b c) ≡ BadParent ∷ []
unfit_first false b c e = refl
unfit_first true false c e = refl
unfit_first true true c e = let z : ◌≡◌ {A = ℕ} 0 1 = cc in absurd (omega arith)

fit_last : (a b c : Bool) → (a && b) ≡ true → tests a b c ≡ unless c InheritanceTooDeep
fit_last true true c e = refl
fit_last true false c e = let z : ◌≡◌ {A = ℕ} 0 1 = cc in absurd (omega arith)
fit_last false b c e = let z : ◌≡◌ {A = ℕ} 0 1 = cc in absurd (omega arith)

-- n numbers were met
long_faults : (n most : ℕ) (b : Bool) → leb n most ≡ b → (unless b InheritanceTooDeep ≡ InheritanceTooDeep ∷ []) ↔ (most < n)
long_faults n most true e = (λ q. let z : ◌≡◌ {A = ℕ} 0 1 = cc in absurd (omega arith), λ k. absurd (omega (arith, leb-true n most e)))
long_faults n most false e = (λ q. leb-false n most e, λ k. refl)

short_faults : (n most : ℕ) (b : Bool) → leb n most ≡ b → (unless b InheritanceTooDeep ≡ []) ↔ (n ≤ most)
short_faults n most true e = (λ q. leb-true n most e, λ k. refl)
short_faults n most false e = (λ q. let z : ◌≡◌ {A = ℕ} 0 1 = cc in absurd (omega arith), λ k. absurd (omega (arith, leb-false n most e)))

child_right : (most : ℕ) (types : List TypeDef) (t p : ℕ) → ChildRight most types t p
unfolding is_fit child_faults short_chain
child_right most types t p =
    let a = is_struct (type_at types p) in
    let b = fields_first types p t in
    let n = length (chain types (suc most) t) in
    record {
      unfit = unfit_first a b (leb n most);
      long = λ e. rw (fit_last a b (leb n most) e) (long_faults n most (leb n most) refl);
      short = λ e. rw (fit_last a b (leb n most) e) (short_faults n most (leb n most) refl);
    }

-- ── types that keep the rules ──

-- a chain that ends has a root
root_above : (types : List TypeDef) (f t : ℕ) → T (ends types f t) → (r : ℕ) × ((entry_at types r ≡ root) × Reaches types t r)
root_above types zero t h = absurd (ends_zero types t h)
root_above types (suc f) t h = kind types t ((r : ℕ) × ((entry_at types r ≡ root) × Reaches types t r))
    (λ k. absurd (subst (λ e. T (is_struct_entry e)) k (ends_struct types (suc f) t h)))
    (λ k. (t, (k, here refl)))
    (λ p k. let r = root_above types f p (rw (ends_up types f t p k) at h) in (r.0, (r.1.0, up k r.1.1)))

-- how often a number stands in a list
count_kept : (x : ℕ) (l : List ℕ) → count x l ≡ length (keep (eqb x) l)
count_kept x [] = refl
count_kept x (y ∷ l) = go (eqb x y) (count_kept x l)
  where
    go : (b : Bool) → count x l ≡ length (keep (eqb x) l) → tick b + count x l ≡ length (cond b (y ∷ keep (eqb x) l) (keep (eqb x) l))
    go true e = omega arith
    go false e = omega arith

tick_cond : (b : Bool) → tick b ≡ cond b 1 0
tick_cond true = refl
tick_cond false = refl

module _ (most : ℕ) (one : 1 ≤ most) (m : Module) (e : parents_faults most m ≡ []) where
  abbrev types : List TypeDef
  types = m.types

  rule : ChainRule most types
  rule = chain_rule most one m e

  is_struct_lem : (t : ℕ) → T (is_struct (type_at types t)) → T (is_struct_entry (entry_at types t))
  is_struct_lem t h = rw (struct_at types t) h

  chain_short : (t : ℕ) → T (is_struct (type_at types t)) → length (chain types (suc most) t) ≤ most
  unfolding short_chain
  chain_short t h = kind types t (length (chain types (suc most) t) ≤ most)
      (λ k. absurd (subst (λ e. T (is_struct_entry e)) k (is_struct_lem t h)))
      (λ k. omega (arith, ap length (chain_stop types most t (unfold parents in ap parents k))))
      (λ p k. leb→le (length (chain types (suc most) t)) most (children_kept most m e t p k).short)

  kept_right : KeptRight most types
  kept_right = record {
    short = chain_short;
    rooted = λ t h. root_above types most t (rule.short t (is_struct_lem t h));
    entered = λ t.
        sym (count_kept t (order most types))
        ∙ once most types rule t
        ∙ ap tick (struct_at types t)
        ∙ tick_cond (is_struct (type_at types t));
    families = λ t a.
        let f = families most one m e t a in
        (λ h. let k = f.0 h in record { below = k.0; above = k.1; reaches = k.2 }, λ d. f.1 (d.below, d.above, d.reaches));
  }

-- ── both sides of the limit ──

module _ (n : ℕ) where
  abbrev line : List TypeDef
  line = one_chain n

  abbrev link : ℕ → TypeDef
  link k = struct (record { name = 0; parent+ = k; fields = []; methods = [] })

  line_length : length line ≡ n
  unfolding one_chain
  line_length = length-map (from 0 n) link ∙ length_from 0 n

  line_at : (k : ℕ) → k < n → type_at line k ≡ link k
  unfolding type_at one_chain
  line_at k h = map_from_at link coroutine n k h

  line_root : 0 < n → entry_at line 0 ≡ root
  unfolding entry_at entry entry_of struct_of struct_entry
  line_root h = ap entry (line_at 0 h)

  line_sub : (k : ℕ) → suc k < n → entry_at line (suc k) ≡ sub k
  unfolding entry_at entry entry_of struct_of struct_entry
  line_sub k h = ap entry (line_at (suc k) h)

  line_struct : (k : ℕ) → k < n → is_struct (type_at line k) ≡ true
  unfolding is_struct kind_word
  line_struct k h = ap is_struct (line_at k h)

  line_fit : (k : ℕ) → suc k < n → is_fit line (suc k) k ≡ true
  unfolding is_fit fields_first field_words struct_of
  line_fit k h =
      both (line_struct k (omega arith))
      (ap₂ (λ (a b : TypeDef). is_front (field_words (struct_of a)) (field_words (struct_of b))) (line_at k (omega arith)) (line_at (suc k) h))

  -- the numbers met from k
  line_chain : (f k : ℕ) → k < n → length (chain line f k) ≡ min f (suc k)
  line_chain zero k h = unfold chain walk in omega arith
  line_chain (suc f) zero h = omega (arith, ap length (chain_stop line f 0 (unfold parents in ap parents (line_root h))))
  line_chain (suc f) (suc k) h = omega (arith, ap length (chain_up line f (suc k) k (line_sub k h)), line_chain f k (omega arith))

  module _ (most : ℕ) (one : 1 ≤ most) where
    line_kept : n ≤ most → (k : ℕ) → k < n → parent_faults most line k (entry_at line k) ≡ []
    unfolding parent_faults
    line_kept l zero h = ap (parent_faults most line 0) (line_root h)
    line_kept l (suc k) h =
        ap (parent_faults most line (suc k)) (line_sub k h)
        ∙ ((child_right most line (suc k) k).short (line_fit k h)).1 (omega (arith, line_chain (suc most) (suc k) h))

    module_kept : (m : Module) → m.types ≡ line → n ≤ most → parents_faults most m ≡ []
    unfolding parents_faults entry_at type_at
    module_kept m q l =
        let f : List TypeDef → ℕ → TypeDef → List LoadErrorKind = λ ts t d. parent_faults most ts t (entry d) in
        ap (λ (ts : List TypeDef). map in_module (concat_map_from 0 (f ts) ts)) q
        ∙ (map_empty in_module (concat_map_from 0 (f line) line)).1
        ((every_from coroutine (f line) line).1 (λ t h. line_kept l t (omega (arith, line_length))))

    line_sides : (m : Module) → m.types ≡ line → (parents_faults most m ≡ []) ↔ (n ≤ most)
    line_sides m q = (λ e. go e (dec_lt most n), module_kept m q)
      where
        -- struct `most` meets one number more than the limit
        go : parents_faults most m ≡ [] → Dec (most < n) → n ≤ most
        go e (no h) = omega arith
        go e (yes h) =
            let s : T (is_struct (type_at line most)) = T_of (is_struct (type_at line most)) (line_struct most h) in
            let f = subst (KeptRight most) q (kept_right most one m e) in
            absurd (omega (arith, f.short most s, line_chain (suc most) most h))

-- ── the claim ──

-- THE PARENT RULES ARE RIGHT UNDER EVERY LIMIT FROM 1 UP
pub right_under_all : RightUnderAll
unfolding RightUnderAll
right_under_all most one = record {
  children = child_right most;
  kept = kept_right most one;
  sides = λ m n q. line_sides n most one m q;
}

-- so under those of both editions: 256 and 64
pub right_under_edition : (e : ℕ) → ParentsRight (most_on_chain e)
unfolding RightUnderAll
right_under_edition e = right_under_all (most_on_chain e) (most_from_one e)

pub first_edition : ParentsRight 256
unfolding most_on_chain
first_edition = right_under_edition 1

pub second_edition : ParentsRight 64
unfolding most_on_chain
second_edition = right_under_edition 2
