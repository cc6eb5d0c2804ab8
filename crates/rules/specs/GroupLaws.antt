-- The three groups are all the rules: after rule 3 the walk has met every struct. What is kept in work from one group to the next.
use Rattle.std.specs.Prelude.{ℕ, ◌+◌, ◌*◌, ◌≡◌, refl, List, [], ◌∷◌, ◌++◌}
use Rattle.std.proofs.Common.{◌∙◌, append_assoc, arith}
use Rattle.std.proofs.Math.Path.{ap}
use Rattle.law_faults.specs.Empty.{append_empty}
use Rattle.error.specs.declared.LoadError.{LoadError}
use Rattle.error.specs.Verdict.{Judged}
use Rattle.std.specs.Prelude.{Err, Ok}
use Rattle.error.specs.Verdict.{judged_of}
use Rattle.error.specs.VerdictLaws.{none_refused}
use Rattle.sheet.specs.Module.{Module}
use Rattle.host.specs.Host.{HostFn}
use Rattle.types.specs.Types.{types_faults}
use Rattle.sheet.specs.Editions.{most_of}
use Rattle.sheet.proofs.EditionLaws.{most_from_one}
use Rattle.parents.specs.Parents.{parents_faults}
use Rattle.spans.specs.Spans.{walk_faults}
use Rattle.consts.specs.Consts.{most_deep, consts_faults}
use Rattle.imports.specs.Imports.{imports_faults, globals_faults}
use Rattle.funcs.specs.Funcs.{funcs_faults}
use Rattle.code.specs.Code.{codes_faults}
use Rattle.hooks.specs.Hooks.{hooks_faults, start_faults, exports_faults}
use Rattle.load.specs.Load.{module_faults, faults_of}
use Rattle.law_forest.proofs.AcceptedLaws.{walk_complete}
use Rattle.open_sheet.specs.declared.Opened.{Opened}
use Rattle.open_sheet.specs.Ready.{Ready}
use Rattle.open_sheet.specs.ReadyLaws.{ready_below, imports_inside}
use Rattle.rule5_imports.specs.Links.{LinkedIf}
use Rattle.rules.specs.Groups.{front_faults, record_faults, end_faults, body_faults, LinksKept}

-- ── the order ──

-- what is empty where all before it is may be left out
judged_without : (a w c : List LoadError) → (a ≡ [] → w ≡ []) → judged_of (a ++ w ++ c) ≡ judged_of (a ++ c)
unfolding judged_of
judged_without [] w c h = ap (λ (l : List LoadError). judged_of (l ++ c)) (h refl)
judged_without (e ∷ a) w c h = refl

module _ (hosts : List HostFn) (m : Module) where
  abbrev T : List LoadError
  T = types_faults m

  abbrev P : List LoadError
  P = parents_faults (most_of m) m

  abbrev W : List LoadError
  W = walk_faults (most_of m) m

  abbrev C : List LoadError
  C = consts_faults most_deep m

  walk_empty : T ++ P ≡ [] → W ≡ []
  walk_empty e = walk_complete (most_of m) (most_from_one m.edition) m ((append_empty T P).0 e).1

  -- eleven lists, the third apart
  regroup : (a w c i g f k h s e : List LoadError) → a ++ w ++ c ++ i ++ g ++ f ++ k ++ h ++ s ++ e ≡ a ++ w ++ (c ++ ((i ++ g ++ f) ++ (k ++ (h ++ s ++ e))))
  regroup a w c i g f k h s e = simp append_assoc

  grouped : (a c i g f k h s e : List LoadError) → a ++ (c ++ ((i ++ g ++ f) ++ (k ++ (h ++ s ++ e)))) ≡ (a ++ c) ++ ((i ++ g ++ f) ++ (k ++ (h ++ s ++ e)))
  grouped a c i g f k h s e = simp append_assoc

  pub in_groups : judged_of (faults_of hosts m) ≡ judged_of (front_faults m ++ (record_faults hosts m ++ body_faults m))
  unfolding module_faults front_faults record_faults body_faults end_faults
  in_groups =
      let I = imports_faults hosts m in
      let G = globals_faults m in
      let F = funcs_faults m in
      let K = codes_faults m in
      let H = hooks_faults m in
      let S = start_faults m in
      let E = exports_faults m in
      ap judged_of (regroup (T ++ P) W C I G F K H S E)
      ∙ judged_without (T ++ P) W (C ++ ((I ++ G ++ F) ++ (K ++ (H ++ S ++ E)))) walk_empty
      ∙ ap judged_of (grouped (T ++ P) C I G F K H S E)

-- rules 2 to 4 hold: so does rule 2
pub front_types : (m : Module) {r : Judged} → r ≡ Ok tt → r ≡ judged_of (front_faults m) → types_faults m ≡ []
unfolding front_faults
front_types m e k =
    let T = types_faults m in
    let P = parents_faults (most_of m) m in
    let C = consts_faults most_deep m in
    ((append_empty T P).0 ((append_empty (T ++ P) C).0 (none_refused (T ++ P ++ C) e k)).0).0

-- ── what stays in work ──

module _ (ws w : List ℕ) (o : Opened) (x : Ready ws w o) (v : List ℕ) (k : LinksKept o w v) where
  pub links_ready : Ready ws v o
  unfolding LinksKept
  links_ready = ready_below ws w o x v (record { len = k.len; same = λ i h. k.same i ((λ a b. omega arith), omega arith) })

  -- the places of the imports stay
  pub links_linked : (hosts : List HostFn) {r s : Judged} → r ≡ Ok tt → LinkedIf r hosts ws w o → LinkedIf s hosts ws v o
  unfolding LinksKept
  links_linked hosts e l = record {
    entries = λ q. record { entry = λ i h. k.same (5 * o.layout.words + i) ((λ a b. omega arith), omega (arith, imports_inside ws w o x)) ∙ (l.entries e).entry i h };
  }

pub linked_refused : (hosts : List HostFn) (ws w : List ℕ) (o : Opened) (e : LoadError) → LinkedIf (Err e) hosts ws w o
linked_refused hosts ws w o e = record { entries = λ q. let z : ◌≡◌ {A = ℕ} 0 1 = cc in absurd (omega arith) }
