-- What the name of an export breaks: its range before the repeat, and nothing where names are left unread.
use Prim.Native.Nat.{ℕ, ◌≤◌, ◌<◌, min}
use Rattle.std.specs.Prelude.{◌≡◌, refl, Bool, true, false, not, ltb, get_or, take}
use Rattle.std.proofs.Common.{sym, ◌∙◌, get_or-take, lt-ltb, le-ltb, ltb-true, ltb-false}
use Rattle.std.proofs.Math.Path.{ap, ap₂}
use mathlib.Core.List.{List, [], ◌∷◌, ◌++◌, append-nil}
use Rattle.std.proofs.Math.Bool.{cond}
use native.Mathlib.Omega.{arith}
use Rattle.std.proofs.Math.ListN.{length, length-take}
use Rattle.lists.specs.Lists.{same}
use Rattle.lists.specs.ListLaws.{same_eq, same_self}
use Rattle.lists.specs.AllLaws.{any_found, any_at}
use Rattle.error.specs.declared.LoadErrorKind.{LoadErrorKind}
use Rattle.error.specs.declared.LoadErrorKind.TheVariants.{ExportNameOutOfRange, DuplicateExport}
use Rattle.error.specs.Answer.{unless, string_number}
use Rattle.sheet.specs.Module.{Export, Module}
use Rattle.sheet.specs.Editions.{reads_export_names}
use Rattle.hooks.specs.Hooks.{no_export, export_at, index_faults, name_bytes, is_duplicate, name_faults, export_faults}

-- ── which exports have a name ──

-- the export at place j is one of the first i and has the name of e
pub record Earlier (m : Module) (i : ℕ) (e : Export) : Type 0 where
  pub place : ℕ
  pub before : place < i
  pub inside : place < length m.exports
  pub alike : name_bytes m (export_at m place) ≡ name_bytes m e

module _ (m : Module) (i : ℕ) (e : Export) where
  pub duplicate_earlier : is_duplicate m i e ≡ true → Earlier m i e
  unfolding is_duplicate export_at
  duplicate_earlier h =
      let es = m.exports in
      any_found (λ d. same (name_bytes m d) (name_bytes m e)) no_export (take i es) h λ j a c.
      let l : j < min i (length es) = omega (arith, length-take i es) in
      let k : j < i = omega arith in
      record {
        place = j;
        before = k;
        inside = omega arith;
        alike = ap (name_bytes m) (sym (get_or-take i es j no_export k))
            ∙ same_eq (name_bytes m (get_or (take i es) j no_export)) (name_bytes m e) c;
      }

  pub earlier_duplicate : Earlier m i e → is_duplicate m i e ≡ true
  unfolding is_duplicate export_at
  earlier_duplicate x =
      let es = m.exports in
      let l : x.place < length (take i es) = omega (arith, length-take i es, x.before, x.inside) in
      any_at (λ d. same (name_bytes m d) (name_bytes m e)) no_export (take i es) x.place l
      (ap (λ (b : List ℕ). same b (name_bytes m e)) (ap (name_bytes m) (get_or-take i es x.place no_export x.before) ∙ x.alike)
      ∙ same_self (name_bytes m e))

  -- ── what is broken ──

  by_tests : (p q : Bool) → ltb e.name (length m.strings) ≡ p → is_duplicate m i e ≡ q →
      name_faults m i e ≡ unless p (ExportNameOutOfRange (string_number e.name)) ++ unless (not q) (DuplicateExport i)
  unfolding name_faults
  by_tests p q f g =
      let out = ExportNameOutOfRange (string_number e.name) in
      ap₂ (λ (p q : Bool). unless p out ++ unless (not q) (DuplicateExport i)) f g

  -- no string has the number: 27 first, whatever else
  pub name_absent : length m.strings ≤ e.name →
      name_faults m i e ≡ ExportNameOutOfRange (string_number e.name) ∷ unless (not (is_duplicate m i e)) (DuplicateExport i)
  name_absent h = by_tests false (is_duplicate m i e) (le-ltb e.name (length m.strings) h) refl

  -- a string that one of the first i exports has as its name: 28 with the later place
  pub name_taken : e.name < length m.strings → is_duplicate m i e ≡ true → name_faults m i e ≡ DuplicateExport i ∷ []
  name_taken h x = by_tests true true (lt-ltb e.name (length m.strings) h) x

  -- else nothing
  pub name_free : e.name < length m.strings → is_duplicate m i e ≡ false → name_faults m i e ≡ []
  name_free h x = by_tests true false (lt-ltb e.name (length m.strings) h) x

  -- nothing is broken only there
  pub name_kept : name_faults m i e ≡ [] → (e.name < length m.strings) × (is_duplicate m i e ≡ false)
  name_kept h = go (ltb e.name (length m.strings)) (is_duplicate m i e) refl refl
    where
      go : (p q : Bool) → ltb e.name (length m.strings) ≡ p → is_duplicate m i e ≡ q → (e.name < length m.strings) × (q ≡ false)
      go true false f g = (ltb-true e.name (length m.strings) f, refl)
      go true true f g = let k = by_tests true true f g in let z : ◌≡◌ {A = ℕ} 0 1 = cc in absurd (omega arith)
      go false q f g = let k = by_tests false q f g in let z : ◌≡◌ {A = ℕ} 0 1 = cc in absurd (omega arith)

  -- a fault of the name is 27, with its number, or 28, with this place
  pub name_broken : {C : Type 0} (k : LoadErrorKind) (ks : List LoadErrorKind) → name_faults m i e ≡ k ∷ ks →
      (k ≡ ExportNameOutOfRange (string_number e.name) → length m.strings ≤ e.name → C) →
      (k ≡ DuplicateExport i → e.name < length m.strings → Earlier m i e → C) → C
  name_broken {C} k ks h out again = go (ltb e.name (length m.strings)) (is_duplicate m i e) refl refl
    where
      go : (p q : Bool) → ltb e.name (length m.strings) ≡ p → is_duplicate m i e ≡ q → C
      go true false f g = let t = by_tests true false f g in let z : ◌≡◌ {A = ℕ} 0 1 = cc in absurd (omega arith)
      go true true f g =
          let t = by_tests true true f g in
          let z : k ≡ DuplicateExport i = cc in again z (ltb-true e.name (length m.strings) f) (duplicate_earlier g)
      go false q f g =
          let t = by_tests false q f g in
          let z : k ≡ ExportNameOutOfRange (string_number e.name) = cc in out z (ltb-false e.name (length m.strings) f)

  -- ── by edition ──

  pub names_read_lem : reads_export_names m.edition ≡ true → export_faults m i e ≡ index_faults m e ++ name_faults m i e
  unfolding export_faults
  names_read_lem h = ap (λ (b : Bool). index_faults m e ++ cond b (name_faults m i e) []) h

  pub names_unread : reads_export_names m.edition ≡ false → export_faults m i e ≡ index_faults m e
  unfolding export_faults
  names_unread h = ap (λ (b : Bool). index_faults m e ++ cond b (name_faults m i e) []) h ∙ append-nil (index_faults m e)
