-- An export's index and name, one after the other, and the exports by place.
use Prim.Native.Nat.{ℕ, ◌+◌, ◌*◌, ◌≤◌, ◌<◌}
use mathlib.Core.Path.{◌≡◌, refl, sym, ap, ◌∙◌}
use mathlib.Core.List.{List, [], ◌++◌}
use mathlib.Core.Bool.{Bool, true, false, cond}
use native.Mathlib.Omega.{arith}
use lib.ListN.{length, get_or}
use Rattle.blocks.specs.Blocks.{words}
use Rattle.blocks.specs.Frame.{first_words}
use Rattle.error.specs.declared.LoadErrorKind.{LoadErrorKind}
use Rattle.error.specs.Verdict.{Verdict}
use Rattle.std.specs.Prelude.{Err, Ok}
use Rattle.error.specs.Verdict.{Judged}
use Rattle.error.specs.Answer.{in_module}
use Rattle.error.specs.Verdict.{verdict_of, judged_of, placed}
use Rattle.error.specs.VerdictLaws.{verdict_then, verdict_stop, placed_faults_lem}
use Rattle.sheet.specs.Module.{Export, Module}
use Rattle.sheet.specs.Editions.{reads_export_names}
use Rattle.hooks.specs.Hooks.{no_export, export_at, index_faults, name_faults, export_faults, exports_faults}
use Rattle.region.specs.Region.{word_at, Off, Frame}
use Rattle.open_layout.specs.Opened.{module_in}
use Rattle.open_sheet.specs.declared.Opened.{Opened}
use Rattle.open_sheet.specs.Ready.{Opens, Ready, Above}
use Rattle.open_sheet.specs.ReadyLaws.{count_strings, strings_inside, above_refl, above_then, ready_above}
use Rattle.law_judging.specs.Clearing.{Clears, clears_start, clears_holds, clears_pass, clears_stop}
use Rattle.rule8_exports.specs.Exports.{broken_exports, NamesMarked, MarkedIf, MarkedThen}
use Rattle.rule8_exports.specs.MarkLaws.{marks_start}
use Rattle.rule8_exports.proofs.ExportSteps.{exports_counted}

-- ── one export ──

-- the edition that code asks is the module's
reading : (ws : List ℕ) (o : Opened) → Opens ws o → {t : Bool} → t ≡ reads_export_names o.edition →
    reads_export_names (module_in ws).edition ≡ t
reading ws o x e = ap reads_export_names (sym x.edition) ∙ sym e

module _ (m : Module) (i : ℕ) (e : Export) {r : Verdict} (k : r ≡ verdict_of (index_faults m e)) where
  pub index_stop : (b : LoadErrorKind) → r ≡ Err b → Err b ≡ verdict_of (export_faults m i e)
  unfolding export_faults
  index_stop b z = verdict_stop (index_faults m e) (cond (reads_export_names m.edition) (name_faults m i e) []) b z k

  -- by whether names are read
  then_name : (t : Bool) {s : Verdict} → reads_export_names m.edition ≡ t → r ≡ Ok tt → s ≡ verdict_of (cond t (name_faults m i e) []) →
      s ≡ verdict_of (export_faults m i e)
  unfolding export_faults
  then_name t f z l =
      verdict_then (index_faults m e) (cond t (name_faults m i e) []) z k l
      ∙ ap (λ (t : Bool). verdict_of (index_faults m e ++ cond t (name_faults m i e) [])) (sym f)

module _ (ws w : List ℕ) (o : Opened) (x : Ready ws w o) (i : ℕ) {r : Verdict} {t : Bool}
    (k : r ≡ verdict_of (index_faults (module_in ws) (export_at (module_in ws) i))) (z : r ≡ Ok tt) (f : t ≡ reads_export_names o.edition) where
  pub name_last : {s : Verdict} → t ≡ true → s ≡ verdict_of (name_faults (module_in ws) i (export_at (module_in ws) i)) →
      s ≡ verdict_of (export_faults (module_in ws) i (export_at (module_in ws) i))
  name_last g l = then_name (module_in ws) i (export_at (module_in ws) i) k true (reading ws o x.opens f ∙ g) z l

  pub name_unread : t ≡ false → Ok tt ≡ verdict_of (export_faults (module_in ws) i (export_at (module_in ws) i))
  unfolding verdict_of
  name_unread g = then_name (module_in ws) i (export_at (module_in ws) i) k false (reading ws o x.opens f ∙ g) z refl

module _ (ws w : List ℕ) (o : Opened) (x : Ready ws w o) (i : ℕ) {t : Bool} (f : t ≡ reads_export_names o.edition) where
  -- marks where names are read
  pub marks_read : t ≡ true → MarkedIf (module_in ws) i w (6 * o.layout.words) → NamesMarked (module_in ws) i w (6 * o.layout.words)
  marks_read g y = y.read (reading ws o x.opens f ∙ g)

  pub marks_unread : t ≡ false → MarkedIf (module_in ws) i w (6 * o.layout.words)
  marks_unread g = record {
    read = λ q.
        let y : reads_export_names (module_in ws).edition ≡ false = reading ws o x.opens f ∙ g in
        let z : ◌≡◌ {A = ℕ} 0 1 = cc in absurd (omega arith);
  }

  pub unread_then : t ≡ false → MarkedThen (Ok tt) (module_in ws) i w (6 * o.layout.words)
  unread_then g = record { holds = λ _. marks_unread g }

-- ── exports by place ──

-- the first i exports hold, and their names are marked
pub record Checked (ws w₀ w : List ℕ) (o : Opened) (i : ℕ) : Type 0 where
  pub ready : Ready ws w o
  pub above : Above o w₀ w
  pub marked : MarkedIf (module_in ws) i w (6 * o.layout.words)
  pub clears : Clears (export_faults (module_in ws)) (module_in ws).exports i

module _ (b w₀ : List ℕ) (o : Opened) where
  abbrev ws : List ℕ
  ws = first_words b o.layout.words

  abbrev m : Module
  m = module_in ws

  pub checked_start : Ready ws w₀ o → MarkedIf m 0 w₀ (6 * o.layout.words) → Checked ws w₀ w₀ o 0
  checked_start x y = record { ready = x; above = above_refl o w₀; marked = y; clears = clears_start (export_faults m) m.exports }

  module _ (w : List ℕ) (i : ℕ) (x : Checked ws w₀ w o i) where
    pub checked_ready : Ready ws w o
    checked_ready = x.ready

    pub checked_marked : MarkedIf m i w (6 * o.layout.words)
    checked_marked = x.marked

    pub checked_above : Above o w₀ w
    checked_above = x.above

    module _ {c : ℕ} (n : c ≡ get_or (words b) o.layout.exports 0) where
      pub checked_all : c ≤ i → Ok tt ≡ verdict_of (broken_exports m)
      unfolding broken_exports
      checked_all h = clears_holds (export_faults m) m.exports i x.clears (omega (arith, exports_counted b o x.ready.opens n))

      module _ (h : i < c) where
        pub checked_below : i < length m.exports
        checked_below = omega (arith, exports_counted b o x.ready.opens n)

        module _ (v : List ℕ) {r : Verdict} (k : r ≡ verdict_of (export_faults m i (export_at m i))) (a : Above o w v) where
          pub checked_next : r ≡ Ok tt → MarkedThen r m (i + 1) v (6 * o.layout.words) → Checked ws w₀ v o (i + 1)
          unfolding export_at
          checked_next e y = record {
            ready = ready_above o ws w v x.ready a;
            above = above_then o w₀ w v x.above a;
            marked = y.holds e;
            clears = clears_pass (export_faults m) m.exports i x.clears no_export checked_below e k;
          }

          pub checked_stop : (d : LoadErrorKind) → r ≡ Err d → Err d ≡ verdict_of (broken_exports m)
          unfolding export_at broken_exports
          checked_stop d e = clears_stop (export_faults m) m.exports i x.clears no_export checked_below e k

          pub checked_on : Above o w₀ v
          checked_on = above_then o w₀ w v x.above a

pub ruleset checking = (
  checked_start,
  checked_ready,
  checked_marked,
  checked_above,
  checked_all,
  checked_below,
  checked_next,
  checked_stop,
  checked_on,
)

-- ── all exports ──

pub exports_judged : (m : Module) {v : Verdict} {r : Judged} → v ≡ verdict_of (broken_exports m) →
    r ≡ placed in_module v → r ≡ judged_of (exports_faults m)
unfolding exports_faults broken_exports
exports_judged m e k = placed_faults_lem in_module (broken_exports m) e k

-- no mark is set in words that were filled
module _ (ws w : List ℕ) (o : Opened) (x : Ready ws w o) where
  pub fill_room : 6 * o.layout.words + o.counts.strings ≤ length w
  fill_room = omega (arith, count_strings ws o x.opens, strings_inside ws w o x, x.room)

  module _ (v : List ℕ) (f : Frame (Off (6 * o.layout.words) (6 * o.layout.words + o.counts.strings)) w v) where
    pub filled_above : Above o w v
    unfolding Above
    filled_above = record { len = f.len; same = λ k h. f.same k (λ a b. omega arith) }

    pub filled_marks : ((p : ℕ) → p < o.counts.strings → word_at v (6 * o.layout.words) p ≡ 0) →
        MarkedIf (module_in ws) 0 v (6 * o.layout.words)
    filled_marks z = record {
      read = λ _.
          marks_start (module_in ws) v (6 * o.layout.words) (omega (arith, fill_room, count_strings ws o x.opens, f.len))
          (λ c h. z c (omega (arith, count_strings ws o x.opens)));
    }
