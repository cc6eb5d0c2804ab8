-- What the names of exports decide, of every call.
use Rattle.std.specs.Prelude.{ℕ, suc, ◌<◌, Bool, false, not, ◌&&◌, ◌||◌, eqb, ltb, length, get_or, Some, Err}
use Rattle.std.proofs.Math.Path.{◌≡◌, refl, sym, ap, subst}
use Rattle.std.proofs.Common.{ap₂, ◌∙◌, eq-eqb, ne_eqb, eqb-true}
use Rattle.std.proofs.Math.Bool.{true, or-true}
use mathlib.Core.List.{List, [], ◌∷◌, ◌++◌, map}
use native.Mathlib.Omega.{arith}
use Rattle.std.proofs.Math.Decide.{dec_lt}
use Rattle.std.proofs.lemmas.Bool.{not-true}
use Rattle.lists.specs.Lists.{all_of, concat_map, concat_map_from}
use Rattle.lists.specs.ListLaws.{and_first}
use Rattle.lists.specs.AllLaws.{contained_passes}
use Rattle.error.specs.declared.StrId.{StrId}
use Rattle.error.specs.declared.LoadErrorKind.{LoadErrorKind}
use Rattle.error.specs.declared.LoadErrorKind.TheVariants.{ExportNameOutOfRange, DuplicateExport}
use Rattle.error.specs.declared.LoadError.{LoadError}
use Rattle.error.specs.Answer.{kind_numbers, in_module, string_number}
use Rattle.sheet.specs.Module.{Export, Module}
use Rattle.sheet.specs.Decode.{decode}
use Rattle.sheet.proofs.DecodedTheorems.{decoded_edition}
use Rattle.sheet.specs.Editions.{most_of, reads_export_names}
use Rattle.host.specs.Host.{HostFn}
use Rattle.hooks.specs.Hooks.{no_export, export_at, index_faults, name_faults, export_faults, exports_faults}
use Rattle.hooks.proofs.ExportLaws.{earlier_duplicate, name_kept, name_broken, names_read_lem, names_unread}
use Rattle.load.specs.Load.{module_faults, faults_of, load}
use Rattle.load.specs.Kinds.{kind_number, judged, before_exports, of_names, of_rules, judged_before}
use Rattle.load.proofs.RuleKinds.{index_kinds, earlier_faults, earlier_kinds}
use Rattle.load.proofs.KindLaws.{accepted_rules, refused_rules}
use Rattle.law_faults.specs.Empty.{append_empty, append_first, map_empty, map_first, every_from, first_from_lem}
use Rattle.calls.specs.EditionCalls.{stated_edition}
use Rattle.calls.specs.ExportCalls.{SameName, NamesPick, NoString, Repeats, NamesAnswered, NamesRight}

-- ── the edition ──

reads_second : {e : ℕ} → e ≡ 2 → reads_export_names e ≡ true
unfolding reads_export_names
reads_second {e} h = eq-eqb e 2 h

second_reads : {e : ℕ} → reads_export_names e ≡ true → e ≡ 2
unfolding reads_export_names
second_reads {e} h = eqb-true e 2 h

reads_first : {e : ℕ} → e ≡ 1 → reads_export_names e ≡ false
unfolding reads_export_names
reads_first {e} h = ne_eqb e 2 (λ z. omega arith)

-- ── no name is broken ──

module _ (m : Module) (r : reads_export_names m.edition ≡ true) (i : ℕ) (e : export_faults m i (export_at m i) ≡ []) where
  name_right : name_faults m i (export_at m i) ≡ []
  name_right =
      let x = export_at m i in
      ((append_empty (index_faults m x) (name_faults m i x)).0 (sym (names_read_lem m i x r) ∙ e)).1

  name_string : (export_at m i).name < length m.strings
  name_string = (name_kept m i (export_at m i) name_right).0

  -- no export before has the name
  name_alone : (j : ℕ) → j < i → j < length m.exports → SameName m j i → ⊥
  name_alone j l k h =
      let f = (name_kept m i (export_at m i) name_right).1 in
      let t = earlier_duplicate m i (export_at m i) (record { place = j; before = l; inside = k; alike = h }) in
      let z : ◌≡◌ {A = ℕ} 0 1 = cc in omega arith

-- all exports hold
exports_hold : (m : Module) → exports_faults m ≡ [] → (i : ℕ) → i < length m.exports → export_faults m i (export_at m i) ≡ []
unfolding exports_faults export_at
exports_hold m h =
    (every_from no_export (export_faults m) m.exports).0 ((map_empty in_module (concat_map_from 0 (export_faults m) m.exports)).0 h)

picks : (m : Module) → reads_export_names m.edition ≡ true → exports_faults m ≡ [] → NamesPick m
picks m r h = record {
  strings = λ i l. name_string m r i (exports_hold m h i l);
  once = λ i j k l s. go i j k l s (dec_lt i j) (dec_lt j i);
}
  where
    go : (i j : ℕ) → i < length m.exports → j < length m.exports → SameName m i j → Dec (i < j) → Dec (j < i) → i ≡ j
    go i j k l s (yes a) b = absurd (name_alone m r j (exports_hold m h j l) i a k s)
    go i j k l s (no a) (yes b) = absurd (name_alone m r i (exports_hold m h i k) j b l (sym s))
    go i j k l s (no a) (no b) = omega arith

-- ── the first that is broken is a name ──

names_apart : (k : LoadErrorKind) → of_names k ≡ true → before_exports k ≡ false
unfolding of_names before_exports judged
names_apart k h =
    let earlier : ℕ → Bool = λ n. ltb 1 n && ltb n 23 || eqb n 26 in
    not-true (earlier (kind_number k)) (contained_passes (λ n. not (earlier n)) (27 ∷ 28 ∷ []) (kind_number k) refl h)

-- where a fault of that kind is no first one of a list whose kinds come before exports
none_such : {C : Type 0} (k : LoadErrorKind) → of_names k ≡ true → before_exports k ≡ true → C
none_such k h t = let f = names_apart k h in let z : ◌≡◌ {A = ℕ} 0 1 = cc in absurd (omega arith)

-- the export at a place has it, in edition 2, and those before it hold
record Origin (m : Module) (k : LoadErrorKind) : Type 0 where
  reads : reads_export_names m.edition ≡ true
  place : ℕ
  inside : place < length m.exports
  before : (j : ℕ) → j < place → export_faults m j (export_at m j) ≡ []
  rest : List LoadErrorKind
  fault : name_faults m place (export_at m place) ≡ k ∷ rest

module _ (m : Module) (k : LoadErrorKind) (n : of_names k ≡ true) where
  -- of an export
  export_origin : (i : ℕ) → i < length m.exports → ((j : ℕ) → j < i → export_faults m j (export_at m j) ≡ []) → (ks : List LoadErrorKind) →
      export_faults m i (export_at m i) ≡ k ∷ ks → Origin m k
  export_origin i l b ks q = go (reads_export_names m.edition) refl
    where
      indexed : {C : Type 0} (ys : List LoadErrorKind) → index_faults m (export_at m i) ≡ k ∷ ys → C
      indexed ys h =
          let t = index_kinds m (export_at m i) in
          let s : all_of judged (k ∷ ys) ≡ true = subst (λ (l : List LoadErrorKind). all_of judged l ≡ true) h t in
          none_such k n (judged_before k (and_first (judged k) (all_of judged ys) s))

      go : (t : Bool) → reads_export_names m.edition ≡ t → Origin m k
      go true r =
          let x = export_at m i in
          append_first (index_faults m x) (name_faults m i x) k ks (sym (names_read_lem m i x r) ∙ q) indexed
          λ e f. record { reads = r; place = i; inside = l; before = b; rest = ks; fault = f }
      go false r = indexed ks (sym (names_unread m i (export_at m i) r) ∙ q)

  -- of all exports
  exports_origin : (es : List LoadError) → exports_faults m ≡ in_module k ∷ es → Origin m k
  unfolding exports_faults export_at
  exports_origin es q =
      map_first in_module (concat_map_from 0 (export_faults m) m.exports) (in_module k) es q λ x ks c h.
      let z : x ≡ k = ap (λ (e : LoadError). e.kind) h in
      first_from_lem no_export 0 (export_faults m) m.exports x ks c λ i l b zs f.
      export_origin i l (λ j a. subst (λ (p : ℕ). export_faults m p (get_or m.exports j no_export) ≡ []) (omega arith) (b j a)) zs
      (subst (λ (p : ℕ). export_faults m p (get_or m.exports i no_export) ≡ x ∷ zs) (omega arith) f
      ∙ ap (λ (y : LoadErrorKind). y ∷ zs) z)

  -- of all rules
  origin : (most : ℕ) (hosts : List HostFn) (es : List LoadError) → module_faults most hosts m ≡ in_module k ∷ es → Origin m k
  unfolding module_faults
  origin most hosts es q =
      append_first (earlier_faults most hosts m) (exports_faults m) (in_module k) es q
      (λ ys h.
      let t = subst (λ (l : List LoadError). all_of (λ e. before_exports e.kind) l ≡ true) h (earlier_kinds most hosts m) in
      none_such k n (and_first (before_exports k) (all_of (λ e. before_exports e.kind) ys) t))
      (λ e h. exports_origin es h)

-- ── refusals ──

module _ (sheet hosts : List ℕ) (table work : ℕ) (m : Module) (d : decode sheet ≡ Some m) where
  -- 27 and 28 come of the rules
  refused_origin : (k : LoadErrorKind) → of_names k ≡ true → load sheet hosts table work ≡ Err (in_module k) → Origin m k
  unfolding of_rules
  refused_origin k n q =
      let t : of_rules k ≡ true = ap (λ (b : Bool). before_exports k || b) n ∙ or-true (before_exports k) in
      refused_rules sheet hosts table work m d (in_module k) t q λ hs es h. origin m k n (most_of m) hs es h

  edition_is : m.edition ≡ stated_edition sheet
  edition_is = (decoded_edition sheet m d).0

  out_of_range_lem : (name : StrId) → load sheet hosts table work ≡ Err (in_module (ExportNameOutOfRange name)) →
      (stated_edition sheet ≡ 2) × NoString m name.0
  unfolding of_names kind_number kind_numbers
  out_of_range_lem name q =
      let o = refused_origin (ExportNameOutOfRange name) refl q in
      let i = o.place in
      name_broken m i (export_at m i) (ExportNameOutOfRange name) o.rest o.fault
      (λ k l.
      let z : name ≡ string_number (export_at m i).name = cc in
      let y : name.0 ≡ (export_at m i).name = ap (λ (s : StrId). s.0) z in
      (sym edition_is ∙ second_reads o.reads, record { place = i; inside = o.inside; named = sym y; absent = omega arith }))
      (λ k l e. let z : ◌≡◌ {A = ℕ} 0 1 = cc in absurd (omega arith))

  duplicate_at : (n : ℕ) → load sheet hosts table work ≡ Err (in_module (DuplicateExport n)) → (stated_edition sheet ≡ 2) × Repeats m n
  unfolding of_names kind_number kind_numbers
  duplicate_at n q =
      let o = refused_origin (DuplicateExport n) refl q in
      let i = o.place in
      name_broken m i (export_at m i) (DuplicateExport n) o.rest o.fault
      (λ k l. let z : ◌≡◌ {A = ℕ} 0 1 = cc in absurd (omega arith))
      (λ k l e.
      let z : i ≡ n = cc in (
        sym edition_is ∙ second_reads o.reads,
        subst (Repeats m) z (record {
          inside = o.inside;
          place = e.place;
          earlier = e.before;
          alike = e.alike;
          different = λ j k a b s. name_alone m o.reads k (o.before k b) j a (omega (arith, o.inside)) s;
        }),
      ))

-- ── names that are left unread ──

indexes_alone : (m : Module) → reads_export_names m.edition ≡ false → (k : ℕ) (es : List Export) →
    concat_map_from k (export_faults m) es ≡ concat_map (index_faults m) es
indexes_alone m r k [] = refl
indexes_alone m r k (e ∷ es) = ap₂ ◌++◌ (names_unread m k e r) (indexes_alone m r (suc k) es)

-- ── of every call ──

last_empty : (m : Module) (hs : List HostFn) → faults_of hs m ≡ [] → exports_faults m ≡ []
unfolding module_faults
last_empty m hs h = ((append_empty (earlier_faults (most_of m) hs m) (exports_faults m)).0 h).1

answered : (sheet hosts : List ℕ) (table work : ℕ) (m : Module) → decode sheet ≡ Some m →
    NamesAnswered sheet m (load sheet hosts table work)
unfolding exports_faults
answered sheet hosts table work m d =
    let edition = edition_is sheet hosts table work m d in
    record {
      accepted = λ l e q.
          accepted_rules sheet hosts table work m d l q λ hs none. picks m (reads_second (edition ∙ e)) (last_empty m hs none);
      out_of_range = out_of_range_lem sheet hosts table work m d;
      duplicate = duplicate_at sheet hosts table work m d;
      unread = λ e. ap (map in_module) (indexes_alone m (reads_first (edition ∙ e)) 0 m.exports);
    }

pub names_right : NamesRight
unfolding NamesRight
names_right sheet hosts table work r left work_left m d c =
    subst (NamesAnswered sheet m) (sym c.answers) (answered sheet hosts (length table) (length work) m d)
