-- Imports by number: those before i break no rule, and their places are stored.
use Prim.Native.Nat.{ℕ, ◌+◌, ◌*◌, ◌≤◌, ◌<◌}
use mathlib.Core.Path.{◌≡◌, refl, sym, ap, subst, ◌∙◌}
use mathlib.Core.List.{List, [], ◌∷◌}
use native.Mathlib.Omega.{arith}
use native.Mathlib.Decide.{dec_lt}
use lib.ListN.{length, get_or, set}
use lib.Seq.{get_or-set_same, get_or-set_other}
use Rattle.lists.specs.Lists.{concat_map}
use Rattle.lists.specs.ListLaws.{concat_map_from_lem}
use Rattle.error.specs.declared.LoadErrorKind.{LoadErrorKind}
use Rattle.error.specs.Verdict.{Verdict, Judged, verdict_of, judged_of, placed}
use Rattle.std.specs.Prelude.{Err, Ok, Result}
use Rattle.error.specs.Answer.{in_module}
use Rattle.error.specs.VerdictLaws.{placed_faults_lem}
use Rattle.sheet.specs.Module.{Module}
use Rattle.host.specs.Host.{HostFn}
use Rattle.imports.specs.Imports.{host_entry, import_faults, imports_faults}
use Rattle.code.specs.Callee.{no_import, import_at}
use Rattle.open_layout.specs.Opened.{module_in}
use Rattle.region.specs.Region.{Frame}
use Rattle.region.specs.RegionLaws.{frame_refl, frame_then, frame_set}
use Rattle.law_judging.specs.Clearing.{Clears, clears_start, clears_next, clears_holds, clears_stop}
use Rattle.open_sheet.specs.declared.Opened.{Opened}
use Rattle.open_sheet.specs.Ready.{Ready, Kept}
use Rattle.open_sheet.specs.ReadyLaws.{imports_in, count_imports, imports_inside, ready_kept}
use Rattle.rule5_imports.specs.Links.{linked_of, broken_imports, HostEntries, EntriesIf, LinkedIf}

-- ── an answer ──

linked_none : (f : List LoadErrorKind) (x k : ℕ) {r : Result ℕ LoadErrorKind} → r ≡ Ok k → r ≡ linked_of f x → f ≡ []
unfolding linked_of
linked_none [] x k e z = refl
linked_none (b ∷ f) x k e z = let y : ◌≡◌ {A = ℕ} 0 1 = cc in absurd (omega arith)

linked_place : (f : List LoadErrorKind) (x k : ℕ) {r : Result ℕ LoadErrorKind} → r ≡ Ok k → r ≡ linked_of f x → k ≡ x
unfolding linked_of
linked_place [] x k e z = cc
linked_place (b ∷ f) x k e z = let y : ◌≡◌ {A = ℕ} 0 1 = cc in absurd (omega arith)

linked_stop : (f : List LoadErrorKind) (x : ℕ) (b : LoadErrorKind) {r : Result ℕ LoadErrorKind} → r ≡ Err b → r ≡ linked_of f x
    → Err b ≡ verdict_of f
unfolding linked_of verdict_of
linked_stop [] x b e z = let y : ◌≡◌ {A = ℕ} 0 1 = cc in absurd (omega arith)
linked_stop (c ∷ f) x b e z = let y : b ≡ c = cc in ap Err y

-- ── the loop ──

-- w is w₀ but for the free words, which hold the places of the imports before i; nothing is broken in those
pub record Linking (hosts : List HostFn) (ws w₀ : List ℕ) (o : Opened) (w : List ℕ) (i : ℕ) : Type 0 where
  pub ready : Ready ws w o
  pub kept : Kept o w₀ w
  pub stored : HostEntries hosts ws w o i
  pub clears : Clears (λ j. import_faults hosts (module_in ws)) (module_in ws).imports i

module _ (hosts : List HostFn) (ws w₀ : List ℕ) (o : Opened) where
  pub linking_start : Ready ws w₀ o → Linking hosts ws w₀ o w₀ 0
  unfolding Kept
  linking_start x = record {
    ready = x;
    kept = frame_refl (λ k. k < 5 * o.layout.words) w₀;
    stored = record { entry = λ j l. absurd (omega arith) };
    clears = clears_start (λ j. import_faults hosts (module_in ws)) (module_in ws).imports;
  }

  module _ (w : List ℕ) (i : ℕ) (x : Linking hosts ws w₀ o w i) where
    pub linking_length : length w ≡ length w₀
    unfolding Kept
    linking_length = x.kept.len

    pub linking_lengths : {u : List ℕ} → u ≡ w → length u ≡ length w₀
    linking_lengths e = ap length e ∙ linking_length

    pub linking_ready : Ready ws w o
    linking_ready = x.ready

    pub linking_kept : Kept o w₀ w
    linking_kept = x.kept

    -- a call that left the words as they were
    pub linking_same : {u : List ℕ} → u ≡ w → Kept o w₀ u
    linking_same e = subst (Kept o w₀) (sym e) x.kept

    pub linking_end : o.counts.imports ≤ i → Ok tt ≡ verdict_of (broken_imports hosts (module_in ws))
    unfolding broken_imports
    linking_end h =
        clears_holds (λ j. import_faults hosts (module_in ws)) (module_in ws).imports i x.clears
        (omega (arith, count_imports ws o x.ready.opens))

    pub linking_all : o.counts.imports ≤ i → EntriesIf (Ok tt) hosts ws w o
    linking_all h = record { entries = λ e. record { entry = λ j l. x.stored.entry j (omega (arith, count_imports ws o x.ready.opens)) } }

    module _ (h : i < o.counts.imports) where
      inside : i < length (module_in ws).imports
      inside = imports_in ws w o x.ready i h

      pub linking_room : {u : List ℕ} → u ≡ w → 5 * o.layout.words + i < length u
      linking_room {u} e = let z : length w
          ≡ length u = ap length (sym e) in omega (arith, x.ready.room, imports_inside ws w o x.ready, inside, z)

      module _ {r : Result ℕ LoadErrorKind}
          (k : r ≡ linked_of (import_faults hosts (module_in ws) (import_at (module_in ws) i))
          (host_entry (module_in ws) hosts (import_at (module_in ws) i))) where
        pub linking_stop : {b : LoadErrorKind} → r ≡ Err b → Err b ≡ verdict_of (broken_imports hosts (module_in ws))
        unfolding broken_imports import_at
        linking_stop {b} y =
            clears_stop (λ j. import_faults hosts (module_in ws)) (module_in ws).imports i x.clears no_import inside refl
            (linked_stop _ _ b y k)

        pub linking_next : {e : ℕ} {u v : List ℕ} → r ≡ Ok e → u ≡ w → v ≡ set u (5 * o.layout.words + i) e
            → Linking hosts ws w₀ o v (i + 1)
        unfolding Kept import_at
        linking_next {e} {u} {v} y q z =
            let base = 5 * o.layout.words in
            let s : v ≡ set w (base + i) e = z ∙ ap (λ l. set l (base + i) e) q in
            let f : Frame (λ k. k < base) w v = subst (Frame (λ k. k < base) w) (sym s)
            (frame_set (λ k. k < base) w (base + i) e (λ l. omega arith)) in
            record {
              ready = ready_kept ws w o x.ready v f;
              kept = frame_then (λ k. k < base) (λ k. k < base) (λ k. k < base) w₀ w v (λ k l. l) (λ k l. l) x.kept f;
              stored = record { entry = λ j l. ap (λ l. get_or l (base + j) 0) s ∙ place j l (dec_lt j i) };
              clears = clears_next (λ j. import_faults hosts (module_in ws)) (module_in ws).imports i x.clears no_import inside
                  (linked_none _ _ e y k);
            }
          where
            place : (j : ℕ) → j < i + 1 → Dec (j < i)
                → get_or (set w (5 * o.layout.words + i) e) (5 * o.layout.words + j) 0
                ≡ host_entry (module_in ws) hosts (import_at (module_in ws) j)
            place j l (yes t) = get_or-set_other w (5 * o.layout.words + i) (5 * o.layout.words + j) e 0 (omega arith) ∙ x.stored.entry j t
            place j l (no t) =
                let s : i ≡ j = omega arith in
                ap (λ a. get_or (set w (5 * o.layout.words + i) e) (5 * o.layout.words + a) 0) (sym s)
                ∙ get_or-set_same w (5 * o.layout.words + i) e 0 (linking_room refl)
                ∙ linked_place _ _ e y k
                ∙ ap (λ a. host_entry (module_in ws) hosts (import_at (module_in ws) a)) s

-- of what is broken nothing is claimed
pub entries_none : (b : LoadErrorKind) (hosts : List HostFn) (ws w : List ℕ) (o : Opened) → EntriesIf (Err b) hosts ws w o
entries_none b hosts ws w o = record { entries = λ e. let z : ◌≡◌ {A = ℕ} 0 1 = cc in absurd (omega arith) }

pub ruleset linkings =
    (linking_start, linking_length, linking_lengths, linking_ready, linking_kept, linking_same, linking_end, linking_all, linking_room, linking_stop, linking_next, entries_none)

-- ── the whole group ──

pub imports_judged : (hosts : List HostFn) (m : Module) {v : Verdict} {r : Judged} → v ≡ verdict_of (broken_imports hosts m)
    → r ≡ placed in_module v → r ≡ judged_of (imports_faults hosts m)
unfolding imports_faults broken_imports
imports_judged hosts m e k =
    placed_faults_lem in_module (concat_map (import_faults hosts m) m.imports)
    (e ∙ ap verdict_of (sym (concat_map_from_lem 0 (import_faults hosts m) m.imports))) k

pub imports_linked : (hosts : List HostFn) (ws w : List ℕ) (o : Opened) {v : Verdict} {r : Judged} → EntriesIf v hosts ws w o
    → r ≡ placed in_module v → LinkedIf r hosts ws w o
imports_linked hosts ws w o {v} {r} x e = record { entries = λ z. x.entries (passed v (sym z ∙ e)) }
  where
    passed : (v : Verdict) → Ok tt ≡ placed in_module v → v ≡ Ok tt
    passed (Ok tt) e = refl
    passed (Err b) e = unfold placed in let z : ◌≡◌ {A = ℕ} 0 1 = cc in absurd (omega arith)
