-- What the rules found, as the answer of load and the table that it leaves.
use Prim.Native.Nat.{ℕ, ◌+◌, ◌≤◌, ◌<◌}
use mathlib.Core.Path.{◌≡◌, refl, sym, ap, ap₂, ◌∙◌}
use mathlib.Core.List.{List, [], ◌∷◌, ◌++◌}
use native.Mathlib.Omega.{arith}
use lib.ListN.{length, drop}
use lib.Seq.{take-length}
use Rattle.law_faults.specs.Empty.{append_empty}
use Rattle.error.specs.declared.LoadError.{LoadError}
use Rattle.error.specs.Verdict.{Judged}
use Rattle.std.specs.Prelude.{Err, Ok}
use Rattle.error.specs.Answer.{first}
use Rattle.error.specs.Verdict.{judged_of}
use Rattle.error.specs.VerdictLaws.{none_refused}
use Rattle.sheet.specs.Module.{Module}
use Rattle.host.specs.Host.{HostFn}
use Rattle.open_layout.specs.Opened.{module_in}
use Rattle.types.specs.Types.{types_faults}
use Rattle.sheet.specs.Editions.{most_of}
use Rattle.parents.specs.Parents.{parents_faults}
use Rattle.spans.specs.Spans.{walk_faults}
use Rattle.consts.specs.Consts.{most_deep, consts_faults}
use Rattle.imports.specs.Imports.{imports_faults, globals_faults}
use Rattle.funcs.specs.Funcs.{funcs_faults}
use Rattle.code.specs.Code.{codes_faults}
use Rattle.hooks.specs.Hooks.{hooks_faults, start_faults, exports_faults}
use Rattle.table.specs.Table.{hook_section, canon_section, global_section, reference_section, sections, joined, table_words, spans_of, table_of}
use Rattle.load.specs.Load.{module_faults, faults_of, linked_over}
use Rattle.writing.specs.Writing.{written}
use Rattle.open_sheet.specs.declared.Opened.{Opened}
use Rattle.open_sheet.specs.Ready.{Ready}
use Rattle.rule5_imports.specs.Links.{LinkedIf}
use Rattle.table_imports.specs.SectionLaws.{linked_section, sigs_inside, bindings_fit}
use Rattle.table_all.specs.Parts.{Clear, func_section, type_section, table_by}
use Rattle.load_intact.specs.Linking.{Fits, answered, table_left}

-- ── refused ──

module _ (hosts : List HostFn) (m : Module) {j : Judged} (e : j ≡ judged_of (faults_of hosts m)) where
  pub answer_refused : (b : LoadError) → j ≡ Err b → Err b ≡ answered hosts m
  unfolding answered
  answer_refused b h = go (faults_of hosts m) (sym h ∙ e)
    where
      go : (fs : List LoadError) → Err b ≡ judged_of fs → Err b ≡ first (length (table_of hosts m)) fs
      go [] q = unfold judged_of in let z : ◌≡◌ {A = ℕ} 0 1 = cc in absurd (omega arith)
      go (f ∷ fs) q = unfold judged_of first in let z : b ≡ f = cc in ap Err z

  pub table_refused : (b : LoadError) (table : List ℕ) → j ≡ Err b → table ≡ table_left hosts m table
  unfolding table_left
  table_refused b table h = go (faults_of hosts m) (sym h ∙ e)
    where
      go : (fs : List LoadError) → Err b ≡ judged_of fs → table ≡ linked_over fs (table_of hosts m) table
      go [] q = unfold judged_of in let z : ◌≡◌ {A = ℕ} 0 1 = cc in absurd (omega arith)
      go (f ∷ fs) q = unfold linked_over in refl

-- ── accepted ──

-- what is needed of eleven lists that are empty together
pub record Empties (t p i g f h : List LoadError) : Type 0 where
  pub types : t ≡ []
  pub parents : p ≡ []
  pub imports : i ≡ []
  pub globals : g ≡ []
  pub funcs : f ≡ []
  pub hooks : h ≡ []

empties : (t p w c i g f k h s x : List LoadError) → t ++ p ++ w ++ c ++ i ++ g ++ f ++ k ++ h ++ s ++ x ≡ [] → Empties t p i g f h
empties t p w c i g f k h s x e =
    let e₁ = ((append_empty (t ++ p ++ w ++ c ++ i ++ g ++ f ++ k ++ h ++ s) x).0 e).0 in
    let e₂ = ((append_empty (t ++ p ++ w ++ c ++ i ++ g ++ f ++ k ++ h) s).0 e₁).0 in
    let e₃ = (append_empty (t ++ p ++ w ++ c ++ i ++ g ++ f ++ k) h).0 e₂ in
    let e₄ = ((append_empty (t ++ p ++ w ++ c ++ i ++ g ++ f) k).0 e₃.0).0 in
    let e₅ = (append_empty (t ++ p ++ w ++ c ++ i ++ g) f).0 e₄ in
    let e₆ = (append_empty (t ++ p ++ w ++ c ++ i) g).0 e₅.0 in
    let e₇ = (append_empty (t ++ p ++ w ++ c) i).0 e₆.0 in
    let e₈ = ((append_empty (t ++ p ++ w) c).0 e₇.0).0 in
    let e₉ = ((append_empty (t ++ p) w).0 e₈).0 in
    let e₁₀ = (append_empty t p).0 e₉ in
    record { types = e₁₀.0; parents = e₁₀.1; imports = e₇.1; globals = e₆.1; funcs = e₅.1; hooks = e₃.1 }

module _ (hosts : List HostFn) (m : Module) (e : faults_of hosts m ≡ []) where
  rules_hold : Empties (types_faults m) (parents_faults (most_of m) m)
      (imports_faults hosts m) (globals_faults m) (funcs_faults m) (hooks_faults m)
  unfolding module_faults
  rules_hold =
      empties (types_faults m) (parents_faults (most_of m) m) (walk_faults (most_of m) m)
      (consts_faults most_deep m) (imports_faults hosts m) (globals_faults m) (funcs_faults m)
      (codes_faults m) (hooks_faults m) (start_faults m) (exports_faults m) e

  accepted : Ok (length (table_of hosts m)) ≡ answered hosts m
  unfolding answered first
  accepted = sym (ap (first (length (table_of hosts m))) e)

  linked : (table : List ℕ) → written table 0 (table_of hosts m) ≡ table_left hosts m table
  unfolding table_left linked_over written
  linked table =
      let xs = table_of hosts m in
      let z : 0 + length xs ≡ length xs = omega arith in
      ap₂ (λ (a : List ℕ) (k : ℕ). a ++ drop k table) (take-length xs) z
      ∙ sym (ap (λ (fs : List LoadError). linked_over fs xs table) e)

module _ (ws v : List ℕ) (o : Opened) (hosts : List HostFn) {j : Judged}
    (passed : j ≡ Ok tt) (judged : j ≡ judged_of (faults_of hosts (module_in ws)))
    (x : Ready ws v o) (l : LinkedIf j hosts ws v o) where
  none : faults_of hosts (module_in ws) ≡ []
  none = none_refused (faults_of hosts (module_in ws)) passed judged

  pub clear : o.layout.words ≤ 520192 → Clear (module_in ws)
  clear few =
      let r = rules_hold hosts (module_in ws) none in
      record {
        types = r.types;
        parents = r.parents;
        signed = sigs_inside hosts (module_in ws) r.imports;
        globals = r.globals;
        funcs = r.funcs;
        hooks = bindings_fit ws v o x few r.hooks;
      }

  -- with the places in work the table is the definition's
  table_is : table_by ws v o ≡ table_of hosts (module_in ws)
  unfolding table_by table_words sections
  table_is =
      ap
      (λ (i : List ℕ).
      joined
      (func_section ws
      ∷ type_section ws
      ∷ i
      ∷ hook_section (module_in ws)
      ∷ canon_section (module_in ws)
      ∷ global_section (module_in ws)
      ∷ reference_section (module_in ws)
      ∷ spans_of (module_in ws)
      ∷ []))
      (linked_section hosts ws v o (l.entries passed))

  module _ (table : List ℕ) (f : Fits hosts (module_in ws) table) where
    pub table_room : length (table_by ws v o) ≤ length table
    table_room = omega (arith, ap length table_is, f.room)

    pub table_small : length (table_by ws v o) < 4294967296
    table_small = omega (arith, ap length table_is, f.small)

    pub end_small : {r : ℕ} → r ≡ length (table_by ws v o) → r < 4294967296
    end_small e = omega (arith, e, table_small)

    pub answer_passed : {r : ℕ} → r ≡ length (table_by ws v o) → Ok r ≡ answered hosts (module_in ws)
    answer_passed e = ap Ok (e ∙ ap length table_is) ∙ accepted hosts (module_in ws) none

    pub table_passed : {t : List ℕ} → t ≡ written table 0 (table_by ws v o) → t ≡ table_left hosts (module_in ws) table
    table_passed e = e ∙ ap (written table 0) table_is ∙ linked hosts (module_in ws) none table
