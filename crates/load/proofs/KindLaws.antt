-- What each answer of load means.
use Rattle.std.specs.Prelude.{ℕ, ◌↔◌, List, [], ◌∷◌, Bool, true, not, ◌&&◌, ◌||◌, eqb, ltb, length, Option, None, Some, Err, Ok}
use Rattle.std.proofs.Math.Path.{◌≡◌, refl, ap}
use Rattle.std.proofs.Common.{sym, ◌∙◌, subst, arith}
use Rattle.std.proofs.Math.Bool.{false}
use Rattle.std.proofs.lemmas.Bool.{not-true}
use Rattle.lists.specs.Lists.{all_of, contains}
use Rattle.lists.specs.ListLaws.{and_first}
use Rattle.lists.specs.AllLaws.{contained_passes}
use Rattle.error.specs.declared.LoadErrorKind.{LoadErrorKind}
use Rattle.error.specs.declared.LoadErrorKind.TheVariants.{Decode, BadHostList, ShortSlice, NotLinked}
use Rattle.error.specs.declared.LoadError.{LoadError}
use Rattle.error.specs.Answer.{kind_numbers, in_module, first}
use Rattle.sheet.specs.Module.{Module}
use Rattle.sheet.specs.Decode.{decode}
use Rattle.host.specs.Host.{HostFn, decode_hosts}
use Rattle.sheet.specs.Editions.{most_of}
use Rattle.table.specs.Table.{table_of}
use Rattle.load.specs.Load.{faults_of, long_enough, Opened, refused, opened, with_hosts, with_module, opening, answer, load}
use Rattle.load.proofs.LoadLaws.{module_opened}
use Rattle.load.specs.Kinds.{kind_number, judged, before_exports, of_names, of_rules}
use Rattle.load.proofs.RuleKinds.{rules_kinds}

-- ── the kinds that are given before any rule ──

-- 1, 23 and 24
unfoldable pub early : LoadErrorKind → Bool
early k = contains (1 ∷ 23 ∷ 24 ∷ []) (kind_number k)

-- no rule gives them
pub early_apart : (k : LoadErrorKind) → early k ≡ true → of_rules k ≡ false
unfolding early of_rules before_exports judged of_names
early_apart k h =
    let given : ℕ → Bool = λ n. ltb 1 n && ltb n 23 || eqb n 26 || contains (27 ∷ 28 ∷ []) n in
    not-true (given (kind_number k)) (contained_passes (λ n. not (given n)) (1 ∷ 23 ∷ 24 ∷ []) (kind_number k) refl h)

-- a refusal for the first fault passes a test that all faults pass
pub first_passes : (p : LoadError → Bool) (l : ℕ) (es : List LoadError) (e : LoadError) → all_of p es ≡ true → first l es ≡ Err e → p e ≡ true
unfolding first
first_passes p l [] e h q = let z : ◌≡◌ {A = ℕ} 0 1 = cc in absurd (omega arith)
first_passes p l (x ∷ es) e h q = let z : x ≡ e = cc in subst (λ (y : LoadError). p y ≡ true) z (and_first (p x) (all_of p es) h)

-- a refusal of what was opened is one of the rules'
pub opened_refused : (m : Module) (hs : List HostFn) (e : LoadError) → answer (opened m hs) ≡ Err e → of_rules e.kind ≡ true
unfolding answer
opened_refused m hs e q =
    first_passes (λ e. of_rules e.kind) (length (table_of hs m)) (faults_of hs m) e (rules_kinds (most_of m) hs m) q

-- the refusals before the rules are 1, 23 and 24
pub refused_early : (b : Bool) (d : Option Module) (o : Option (List HostFn)) (k : LoadErrorKind) → with_module b d o ≡ refused k → early k ≡ true
unfolding with_module with_hosts early kind_number kind_numbers
refused_early b None o k e = let z : Decode ≡ k = cc in subst (λ (k : LoadErrorKind). early k ≡ true) z refl
refused_early b (Some m) None k e = let z : BadHostList ≡ k = cc in subst (λ (k : LoadErrorKind). early k ≡ true) z refl
refused_early true (Some m) (Some hs) k e = let z : ◌≡◌ {A = ℕ} 0 1 = cc in absurd (omega arith)
refused_early false (Some m) (Some hs) k e = let z : ShortSlice ≡ k = cc in subst (λ (k : LoadErrorKind). early k ≡ true) z refl

-- an answer with a kind that no rule gives comes from before the rules
early_answer : (k : LoadErrorKind) → of_rules k ≡ false → (o : Opened) → (answer o ≡ Err (in_module k)) ↔ (o ≡ refused k)
unfolding answer
early_answer k n (refused x) = (λ q. let z : in_module x ≡ in_module k = cc in ap (λ (e : LoadError). refused e.kind) z, λ q. ap answer q)
early_answer k n (opened m hs) = (
  λ q. let t = opened_refused m hs (in_module k) q in let z : ◌≡◌ {A = ℕ} 0 1 = cc in absurd (omega arith),
  λ q. let z : ◌≡◌ {A = ℕ} 0 1 = cc in absurd (omega arith),
)

-- ── what was opened, or why not ──

-- there is a value
pub record Given {A : Type 0} (o : Option A) : Type 0 where
  pub value : A
  pub given : o ≡ Some value

-- 1 came of a sheet that does not decode
no_sheet : (b : Bool) (d : Option Module) (o : Option (List HostFn)) → with_module b d o ≡ refused Decode → d ≡ None
unfolding with_module with_hosts
no_sheet b None o q = refl
no_sheet b (Some m) None q = let z : ◌≡◌ {A = ℕ} 0 1 = cc in absurd (omega arith)
no_sheet true (Some m) (Some hs) q = let z : ◌≡◌ {A = ℕ} 0 1 = cc in absurd (omega arith)
no_sheet false (Some m) (Some hs) q = let z : ◌≡◌ {A = ℕ} 0 1 = cc in absurd (omega arith)

-- 23 came of a host list that does not
no_hosts : (b : Bool) (d : Option Module) (o : Option (List HostFn)) → with_module b d o ≡ refused BadHostList → Given d × (o ≡ None)
unfolding with_module with_hosts
no_hosts b None o q = let z : ◌≡◌ {A = ℕ} 0 1 = cc in absurd (omega arith)
no_hosts b (Some m) None q = (record { value = m; given = refl }, refl)
no_hosts true (Some m) (Some hs) q = let z : ◌≡◌ {A = ℕ} 0 1 = cc in absurd (omega arith)
no_hosts false (Some m) (Some hs) q = let z : ◌≡◌ {A = ℕ} 0 1 = cc in absurd (omega arith)

-- 24 came of slices that are too short
no_room : (b : Bool) (d : Option Module) (o : Option (List HostFn)) → with_module b d o ≡ refused ShortSlice → Given d × Given o × (b ≡ false)
unfolding with_module with_hosts
no_room b None o q = let z : ◌≡◌ {A = ℕ} 0 1 = cc in absurd (omega arith)
no_room b (Some m) None q = let z : ◌≡◌ {A = ℕ} 0 1 = cc in absurd (omega arith)
no_room true (Some m) (Some hs) q = let z : ◌≡◌ {A = ℕ} 0 1 = cc in absurd (omega arith)
no_room false (Some m) (Some hs) q = (record { value = m; given = refl }, record { value = hs; given = refl }, refl)

-- accepted with l words: the sheet decodes, the host list decodes, there is room, no rule is broken, and l words are the linked table
pub record Links (sheet hosts : List ℕ) (table work l : ℕ) : Type 0 where
  pub source : Module
  pub host_list : List HostFn
  pub decodes : decode sheet ≡ Some source
  pub lists : decode_hosts hosts ≡ Some host_list
  pub long : long_enough sheet table work ≡ true
  pub kept : faults_of host_list source ≡ []
  pub words : l ≡ length (table_of host_list source)

-- accepted: no fault, and the number that was given
pub first_accepted : (n l : ℕ) (es : List LoadError) → first n es ≡ Ok l → (es ≡ []) × (l ≡ n)
unfolding first
first_accepted n l [] q = (refl, cc)
first_accepted n l (e ∷ es) q = let z : ◌≡◌ {A = ℕ} 0 1 = cc in absurd (omega arith)

-- refused: for the first
first_refused : {C : Type 0} (l : ℕ) (es : List LoadError) (e : LoadError) → first l es ≡ Err e →
    ((rest : List LoadError) → es ≡ e ∷ rest → C) → C
unfolding first
first_refused l [] e q f = let z : ◌≡◌ {A = ℕ} 0 1 = cc in absurd (omega arith)
first_refused l (x ∷ es) e q f = let z : x ≡ e = cc in f es (ap (λ (y : LoadError). y ∷ es) z)

some_same : {A : Type 0} (a b : A) → Some a ≡ Some b → a ≡ b
some_same a b e = cc

-- ── the answers ──

module _ (sheet hosts : List ℕ) (table work : ℕ) where
  -- what both decode to, with room, is opened
  pub opens : (m : Module) (hs : List HostFn) → decode sheet ≡ Some m → decode_hosts hosts ≡ Some hs → long_enough sheet table work ≡ true
      → opening sheet hosts table work ≡ opened m hs
  unfolding opening with_module with_hosts
  opens m hs d o t = rw (t, d, o)

  -- 1: the sheet does not decode
  pub broken_sheet_lem : (load sheet hosts table work ≡ Err (in_module Decode)) ↔ (decode sheet ≡ None)
  unfolding load opening with_module of_rules before_exports judged of_names kind_number kind_numbers
  broken_sheet_lem =
      let f = early_answer Decode refl (opening sheet hosts table work) in
      (λ q. no_sheet (long_enough sheet table work) (decode sheet) (decode_hosts hosts) (f.0 q), λ q. f.1 (rw q))

  -- 23: the sheet decodes, the host list does not
  pub broken_hosts_lem : (load sheet hosts table work ≡ Err (in_module BadHostList)) ↔ (Given (decode sheet) × (decode_hosts hosts ≡ None))
  unfolding load opening with_module with_hosts of_rules before_exports judged of_names kind_number kind_numbers
  broken_hosts_lem =
      let f = early_answer BadHostList refl (opening sheet hosts table work) in
      (λ q. no_hosts (long_enough sheet table work) (decode sheet) (decode_hosts hosts) (f.0 q), λ h. f.1 (rw (h.0.given, h.1)))

  -- 24: both decode, table or work is too short
  pub short_slice_lem : (load sheet hosts table work ≡ Err (in_module ShortSlice))
      ↔ (Given (decode sheet) × Given (decode_hosts hosts) × (long_enough sheet table work ≡ false))
  unfolding load opening with_module with_hosts of_rules before_exports judged of_names kind_number kind_numbers
  short_slice_lem =
      let f = early_answer ShortSlice refl (opening sheet hosts table work) in
      (λ q. no_room (long_enough sheet table work) (decode sheet) (decode_hosts hosts) (f.0 q), λ h. f.1 (rw (h.2, h.0.given, h.1.given)))

  -- a refusal after these is for the first fault
  pub refused_first : (m : Module) (hs : List HostFn) (e : LoadError) (es : List LoadError) → opening sheet hosts table work ≡ opened m hs
      → faults_of hs m ≡ e ∷ es → load sheet hosts table work ≡ Err e
  unfolding load answer first
  refused_first m hs e es o q = ap answer o ∙ ap (first (length (table_of hs m))) q

  -- 0: accepted with l words
  pub accepted : (l : ℕ) → (load sheet hosts table work ≡ Ok l) ↔ Links sheet hosts table work l
  unfolding load opening answer
  accepted l = (
    λ q. go (opening sheet hosts table work) refl q,
    λ k.
        ap answer (opens k.source k.host_list k.decodes k.lists k.long)
        ∙ ap (first (length (table_of k.host_list k.source))) k.kept
        ∙ unfold first in ap Ok (sym k.words),
  )
    where
      go : (o : Opened) → opening sheet hosts table work ≡ o → answer o ≡ Ok l → Links sheet hosts table work l
      go (refused k) e q = unfold answer in let z : ◌≡◌ {A = ℕ} 0 1 = cc in absurd (omega arith)
      go (opened m hs) e q =
          module_opened (long_enough sheet table work) (decode sheet) m (decode_hosts hosts) hs e λ t d o.
          let a = first_accepted (length (table_of hs m)) l (faults_of hs m) q in
          record { source = m; host_list = hs; decodes = d; lists = o; long = t; kept = a.0; words = a.1 }

  -- a refusal is for 1, 23 or 24, or for the first fault of what was opened
  pub refused_cases : {C : Type 0} (e : LoadError) → load sheet hosts table work ≡ Err e → (early e.kind ≡ true → C)
      → ((m : Module) (hs : List HostFn) → answer (opened m hs) ≡ Err e → C) → C
  unfolding load opening
  refused_cases {C} e q f g = go (opening sheet hosts table work) refl q
    where
      go : (o : Opened) → opening sheet hosts table work ≡ o → answer o ≡ Err e → C
      go (refused k) p q =
          let z : in_module k ≡ e = unfold answer in cc in
          f (subst (λ (x : LoadError). early x.kind ≡ true) z (refused_early (long_enough sheet table work) (decode sheet) (decode_hosts hosts) k p))
      go (opened m hs) p q = g m hs q

  -- ── of the module that the sheet decodes to ──

  module _ (m : Module) (d : decode sheet ≡ Some m) {C : Type 0} where
    -- accepted: nothing is broken
    pub accepted_rules : (l : ℕ) → load sheet hosts table work ≡ Ok l → ((hs : List HostFn) → faults_of hs m ≡ [] → C) → C
    accepted_rules l q g =
        let k = (accepted l).0 q in
        let z : k.source ≡ m = some_same k.source m (sym k.decodes ∙ d) in
        g k.host_list (subst (λ (y : Module). faults_of k.host_list y ≡ []) z k.kept)

    -- refused with a kind of the rules: for the first fault
    pub refused_rules : (e : LoadError) → of_rules e.kind ≡ true → load sheet hosts table work ≡ Err e →
        ((hs : List HostFn) (es : List LoadError) → faults_of hs m ≡ e ∷ es → C) → C
    unfolding load opening
    refused_rules e n q g = go (opening sheet hosts table work) refl q
      where
        go : (o : Opened) → opening sheet hosts table work ≡ o → answer o ≡ Err e → C
        go (refused k) p q =
            let z : in_module k ≡ e = unfold answer in cc in
            let f = early_apart k (refused_early (long_enough sheet table work) (decode sheet) (decode_hosts hosts) k p) in
            let t = ap (λ (x : LoadError). of_rules x.kind) z ∙ n in
            let y : ◌≡◌ {A = ℕ} 0 1 = cc in
            absurd (omega arith)
        go (opened x hs) p q =
            module_opened (long_enough sheet table work) (decode sheet) x (decode_hosts hosts) hs p λ t c o.
            let z : x ≡ m = some_same x m (sym c ∙ d) in
            first_refused (length (table_of hs x)) (faults_of hs x) e (unfold answer in q) λ es h.
            g hs es (subst (λ (y : Module). faults_of hs y ≡ e ∷ es) z h)

  -- 25 is the family query's alone
  pub never_not_linked : (e : LoadError) → load sheet hosts table work ≡ Err e → e.kind ≡ NotLinked → ⊥
  unfolding early of_rules before_exports judged of_names kind_number kind_numbers
  never_not_linked e q n = refused_cases e q
      (λ t. let f : early e.kind ≡ false = ap early n in let z : ◌≡◌ {A = ℕ} 0 1 = cc in omega arith)
      (λ m hs a. let t = opened_refused m hs e a in let f : of_rules e.kind ≡ false = ap of_rules n in let z : ◌≡◌ {A = ℕ} 0 1 = cc in omega arith)
