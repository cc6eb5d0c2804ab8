-- The scan type by type, and the comparison of a parent's fields with its child's, word by word.
use Prim.Native.Nat.{ℕ, ◌+◌, ◌-◌, ◌≤◌, ◌<◌}
use mathlib.Core.Path.{◌≡◌, refl, sym, ap, ◌∙◌}
use mathlib.Core.List.{List, [], ◌++◌}
use mathlib.Core.Bool.{Bool, true, false, ◌&&◌}
use native.Mathlib.Omega.{arith}
use native.Mathlib.Numerals.{add-one}
use lib.Dec.{leb}
use lib.ListN.{length, get_or, drop}
use borrow.Author.Tests.{leb-true, leb-false}
use Rattle.lists.specs.Lists.{is_front}
use Rattle.lists.specs.ListLaws.{and_first, and_second}
use Rattle.lists.specs.FrontLaws.{front_long, front_next, front_differs, front_end}
use Rattle.error.specs.declared.LoadErrorKind.{LoadErrorKind}
use Rattle.error.specs.declared.LoadErrorKind.TheVariants.{BadParent, InheritanceTooDeep}
use Rattle.error.specs.Verdict.{Verdict, Judged, verdict_of, judged_of, placed}
use Rattle.std.specs.Prelude.{Err, Ok}
use Rattle.error.specs.Answer.{in_module, unless}
use Rattle.error.specs.VerdictLaws.{placed_faults_lem}
use Rattle.sheet.specs.Module.{TypeDef, coroutine, Module, type_at, struct_of, is_struct}
use Rattle.open_layout.specs.Opened.{module_in}
use Rattle.open_sheet.specs.declared.Opened.{Opened}
use Rattle.open_sheet.specs.Ready.{Ready}
use Rattle.open_sheet.specs.ReadyLaws.{types_in, count_types}
use Rattle.law_judging.specs.Clearing.{Clears, clears_start, clears_next, clears_holds, clears_stop}
use Rattle.parents.specs.Forest.{sub, entry}
use Rattle.parents.specs.Parents.{field_words, fields_first, short_chain, child_faults, parent_faults, parents_faults}
use Rattle.rule3_parents.specs.Child.{parent_word, extends, scan_faults}
use Rattle.rule3_parents.specs.ParentWords.{parent_words, chain_in}
use Rattle.rule3_parents.proofs.ChainSteps.{entry_none, entry_sub, word_parent, chain_short, chain_deep}

-- ── what is broken in one type ──

abbrev pub faults_of : ℕ → List TypeDef → ℕ → TypeDef → List LoadErrorKind
faults_of most types t d = parent_faults most types t (entry d)

module _ (most : ℕ) (types : List TypeDef) (t : ℕ) where
  no_faults_lem : (d : TypeDef) {p : ℕ} → p ≡ parent_word d → p ≡ 0 → faults_of most types t d ≡ []
  unfolding parent_faults
  no_faults_lem d k e = entry_none d k e (λ z. ap (parent_faults most types t) z) (λ z. ap (parent_faults most types t) z)

  child_faults_lem : (d : TypeDef) (p : ℕ) → entry d ≡ sub p → faults_of most types t d ≡ child_faults most types t p
  unfolding parent_faults
  child_faults_lem d p e = ap (parent_faults most types t) e

  module _ (p : ℕ) where
    -- the three tests, one after the other
    tests : Bool → Bool → Bool → List LoadErrorKind
    tests a b c = unless a BadParent ++ unless b BadParent ++ unless c InheritanceTooDeep

    three : {a b c : Bool} → is_struct (type_at types p) ≡ a → fields_first types p t ≡ b → short_chain most types t ≡ c
        → child_faults most types t p ≡ tests a b c
    unfolding child_faults tests
    three x y z = rw (x, y, z) refl

    all_hold : is_struct (type_at types p) ≡ true → fields_first types p t ≡ true → short_chain most types t ≡ true
        → child_faults most types t p ≡ []
    unfolding tests
    all_hold x y z = three x y z

    too_deep : is_struct (type_at types p) ≡ true → fields_first types p t ≡ true → short_chain most types t ≡ false
        → Err InheritanceTooDeep ≡ verdict_of (child_faults most types t p)
    unfolding tests verdict_of
    too_deep x y z = sym (ap verdict_of (three x y z))

    not_first : is_struct (type_at types p) ≡ true → fields_first types p t ≡ false
        → Err BadParent ≡ verdict_of (child_faults most types t p)
    unfolding tests verdict_of
    not_first x y = sym (ap verdict_of (three x y refl))

    no_parent : is_struct (type_at types p) ≡ false → Err BadParent ≡ verdict_of (child_faults most types t p)
    unfolding tests verdict_of
    no_parent x = sym (ap verdict_of (three x refl refl))

    unfit : extends types p t ≡ false → Err BadParent ≡ verdict_of (child_faults most types t p)
    unfolding extends
    unfit e = go (is_struct (type_at types p)) refl e
      where
        go : (b : Bool) → is_struct (type_at types p) ≡ b
            → (b && leb (length (field_words (struct_of (type_at types p)))) (length (field_words (struct_of (type_at types t)))))
            ≡ false →
            Err BadParent ≡ verdict_of (child_faults most types t p)
        go true x e = unfold fields_first in not_first x
            (front_long (field_words (struct_of (type_at types p))) (field_words (struct_of (type_at types t))) (leb-false _ _ e))
        go false x e = no_parent x

-- ── the scan ──

-- nothing was found before type t
pub record Scans (most : ℕ) (types : List TypeDef) (found : Verdict) (t : ℕ) : Type 0 where
  pub holds : found ≡ Ok tt
  pub clear : Clears (faults_of most types) types t

-- type t has the parent p - 1, a struct with n words of fields; the first i are the same
pub record Compares (most : ℕ) (types : List TypeDef) (found : Verdict) (t p n i : ℕ) : Type 0 where
  pub scans : Scans most types found t
  pub known : t < length types
  pub child : entry (type_at types t) ≡ sub (p - 1)
  pub parent : is_struct (type_at types (p - 1)) ≡ true
  pub count : n ≡ length (field_words (struct_of (type_at types (p - 1))))
  pub room : n ≤ length (field_words (struct_of (type_at types t)))
  pub same : fields_first types (p - 1) t
      ≡ is_front (drop i (field_words (struct_of (type_at types (p - 1))))) (drop i (field_words (struct_of (type_at types t))))

module _ (most : ℕ) (types : List TypeDef) where
  pub scan_start : Scans most types (Ok tt) 0
  scan_start = record { holds = refl; clear = clears_start (faults_of most types) types }

  module _ (found : Verdict) (t : ℕ) (s : Scans most types found t) (h : t < length types) where
    passed : faults_of most types t (type_at types t) ≡ [] → Scans most types found (t + 1)
    unfolding type_at
    passed e = record { holds = s.holds; clear = clears_next (faults_of most types) types t s.clear coroutine h e }

    stopped : {b : LoadErrorKind} → Err b ≡ verdict_of (faults_of most types t (type_at types t))
        → Err b ≡ verdict_of (scan_faults most types)
    unfolding type_at scan_faults
    stopped e = clears_stop (faults_of most types) types t s.clear coroutine h refl e

  -- ── one comparison ──

  module _ (found : Verdict) (t p n i : ℕ) (x : Compares most types found t p n i) where
    module _ (h : i < n) where
      pub in_parent : i < length (field_words (struct_of (type_at types (p - 1))))
      in_parent = omega (arith, x.count)

      pub in_child : i < length (field_words (struct_of (type_at types t)))
      in_child = omega (arith, x.room)

      module _ {a b : ℕ} (f : a ≡ get_or (field_words (struct_of (type_at types (p - 1)))) i 0)
          (g : b ≡ get_or (field_words (struct_of (type_at types t))) i 0) where
        pub compare_next : a ≡ b → Compares most types found t p n (i + 1)
        compare_next e = record {
          scans = x.scans;
          known = x.known;
          child = x.child;
          parent = x.parent;
          count = x.count;
          room = x.room;
          same = x.same
              ∙ front_next (field_words (struct_of (type_at types (p - 1))))
              (field_words (struct_of (type_at types t))) i in_parent in_child (sym f ∙ e ∙ g)
              ∙ ap (λ k. is_front (drop k (field_words (struct_of (type_at types (p - 1)))))
              (drop k (field_words (struct_of (type_at types t))))) (sym (add-one i));
        }

        pub compare_stop : (a ≡ b → ⊥) → Err BadParent ≡ verdict_of (scan_faults most types)
        compare_stop e =
            let y : fields_first types (p - 1) t ≡ false =
            x.same ∙ front_differs (field_words (struct_of (type_at types (p - 1))))
            (field_words (struct_of (type_at types t))) i in_parent in_child (λ z. e (f ∙ z ∙ sym g)) in
            stopped found t x.scans x.known
            (not_first most types t (p - 1) x.parent y
            ∙ sym (ap verdict_of (child_faults_lem most types t (type_at types t) (p - 1) x.child)))

    module _ (h : n ≤ i) where
      first : fields_first types (p - 1) t ≡ true
      first = x.same
          ∙ front_end (field_words (struct_of (type_at types (p - 1)))) (field_words (struct_of (type_at types t))) i
          (omega (arith, x.count))

      module _ (ps : List ℕ) (l : ps ≡ parent_words types) {r : ℕ} (k : r ≡ length (chain_in ps (most + 1) t)) where
        pub scan_next : r ≤ most → Scans most types found (t + 1)
        scan_next e =
            passed found t x.scans x.known
            (child_faults_lem most types t (type_at types t) (p - 1) x.child
            ∙ all_hold most types t (p - 1) x.parent first (chain_short ps types l most t k e))

        pub deep_stop : most < r → Err InheritanceTooDeep ≡ verdict_of (scan_faults most types)
        deep_stop e =
            stopped found t x.scans x.known
            (too_deep most types t (p - 1) x.parent first (chain_deep ps types l most t k e)
            ∙ sym (ap verdict_of (child_faults_lem most types t (type_at types t) (p - 1) x.child)))

-- ── over a sheet that is ready, and its parents' words ──

module _ (most : ℕ) (ws w : List ℕ) (o : Opened) (y : Ready ws w o) where
  abbrev types : List TypeDef
  types = (module_in ws).types

  module _ (found : Verdict) (t : ℕ) (x : Scans most types found t) where
    pub scan_end : o.counts.types ≤ t → found ≡ verdict_of (scan_faults most types)
    unfolding scan_faults
    scan_end h = x.holds ∙ clears_holds (faults_of most types) types t x.clear (omega (arith, count_types ws o y.opens))

    module _ (h : t < o.counts.types) (ps : List ℕ) (l : ps ≡ parent_words types) {p : ℕ} (g : p ≡ get_or ps t 0) where
      parent_laid : p ≡ parent_word (type_at types t)
      parent_laid = g ∙ ap (λ ps. get_or ps t 0) l ∙ word_parent types t

      pub scan_skip : p ≡ 0 → Scans most types found (t + 1)
      scan_skip e = passed most types found t x (types_in ws w o y t h) (no_faults_lem most types t (type_at types t) parent_laid e)

      module _ (e : p ≡ 0 → ⊥) {r : Bool} (f : r ≡ extends types (p - 1) t) where
        pub unfit_stop : r ≡ false → Err BadParent ≡ verdict_of (scan_faults most types)
        unfit_stop g =
            stopped most types found t x (types_in ws w o y t h)
            (unfit most types t (p - 1) (sym f ∙ g)
            ∙ sym (ap verdict_of (child_faults_lem most types t (type_at types t) (p - 1) (entry_sub (type_at types t) parent_laid e))))

        pub compare_start : {n : ℕ} → r ≡ true → n ≡ length (field_words (struct_of (type_at types (p - 1)))) →
            Compares most types found t p n 0
        unfolding extends fields_first
        compare_start {n} g c =
            let b = sym f ∙ g in
            let u = field_words (struct_of (type_at types (p - 1))) in
            let v = field_words (struct_of (type_at types t)) in
            let s = is_struct (type_at types (p - 1)) in
            record {
              scans = x;
              known = types_in ws w o y t h;
              child = entry_sub (type_at types t) parent_laid e;
              parent = and_first s (leb (length u) (length v)) b;
              count = c;
              room = omega (arith, leb-true (length u) (length v) (and_second s (leb (length u) (length v)) b));
              same = refl;
            }

-- ── the group ──

pub parents_judged : (most : ℕ) (m : Module) {v : Verdict} {r : Judged} → v ≡ verdict_of (scan_faults most m.types)
    → r ≡ placed in_module v → r ≡ judged_of (parents_faults most m)
unfolding parents_faults scan_faults
parents_judged most m e k = placed_faults_lem in_module (scan_faults most m.types) e k
