-- The record of a function, and of all functions by number.
use Prim.Native.Nat.{ℕ, ◌+◌, ◌≤◌, ◌<◌}
use mathlib.Core.Path.{◌≡◌, refl, sym, ap, subst, ◌∙◌}
use mathlib.Core.List.{List}
use native.Mathlib.Omega.{arith}
use lib.ListN.{length}
use Rattle.error.specs.declared.FuncId.{FuncId}
use Rattle.error.specs.declared.LoadErrorKind.{LoadErrorKind}
use Rattle.error.specs.declared.LoadError.{LoadError}
use Rattle.error.specs.Verdict.{Verdict, Judged, verdict_of, judged_of, placed}
use Rattle.std.specs.Prelude.{Err, Ok}
use Rattle.error.specs.Answer.{in_function}
use Rattle.error.specs.VerdictLaws.{verdict_then, verdict_stop, placed_faults_lem}
use Rattle.open_layout.specs.Opened.{module_in}
use Rattle.code.specs.Callee.{no_func, func_at}
use Rattle.funcs.specs.Funcs.{func_faults, funcs_faults}
use Rattle.open_sheet.specs.declared.Opened.{Opened}
use Rattle.open_sheet.specs.Ready.{Ready}
use Rattle.open_sheet.specs.ReadyLaws.{count_funcs}
use Rattle.law_judging.specs.Clearing.{Clears, clears_start, clears_passed, clears_on, clears_refused}
use Rattle.rule_frames.specs.declared.Frame.{Frame}
use Rattle.rule_frames.specs.Frames.{func_of}
use Rattle.rule6_records.specs.Records.{head_faults, lists_faults}
use Rattle.rule6_funcs.specs.Placed.{record_faults}
use Rattle.rule6_records.proofs.RecordSteps.{func_parts}

-- ── work that stays as it was ──

pub ready_same : (ws w v : List ℕ) (o : Opened) → Ready ws w o → v ≡ w → Ready ws v o
ready_same ws w v o x e = subst (λ u. Ready ws u o) (sym e) x

-- ── one function ──

module _ (ws : List ℕ) (c : Frame) (f : FuncId) {r : Verdict} (h : c.func ≡ f)
    (k : r ≡ verdict_of (head_faults (module_in ws) (func_of ws c))) where
  same_func : verdict_of (func_faults (module_in ws) (func_of ws c)) ≡ verdict_of (func_faults (module_in ws) (func_at (module_in ws) f.0))
  unfolding func_of
  same_func = ap (λ (g : FuncId). verdict_of (func_faults (module_in ws) (func_at (module_in ws) g.0))) h

  pub func_stop : {b : LoadErrorKind} → r ≡ Err b → Err b ≡ verdict_of (func_faults (module_in ws) (func_at (module_in ws) f.0))
  func_stop {b} e =
      verdict_stop (head_faults (module_in ws) (func_of ws c)) (lists_faults (module_in ws) (func_of ws c)) b e k
      ∙ sym (ap verdict_of (func_parts (module_in ws) (func_of ws c))) ∙ same_func

  pub func_then : {v : Verdict} → r ≡ Ok tt → v ≡ verdict_of (lists_faults (module_in ws) (func_of ws c))
      → v ≡ verdict_of (func_faults (module_in ws) (func_at (module_in ws) f.0))
  func_then e z =
      verdict_then (head_faults (module_in ws) (func_of ws c)) (lists_faults (module_in ws) (func_of ws c)) e k z
      ∙ sym (ap verdict_of (func_parts (module_in ws) (func_of ws c))) ∙ same_func

-- ── functions by number ──

-- nothing is broken before function f
pub record Recorded (ws w₀ w : List ℕ) (o : Opened) (f : ℕ) : Type 0 where
  pub same : w ≡ w₀
  pub ready : Ready ws w o
  pub clears : Clears (record_faults (module_in ws)) (module_in ws).funcs f

module _ (ws w₀ : List ℕ) (o : Opened) where
  pub recorded_start : Ready ws w₀ o → Recorded ws w₀ w₀ o 0
  recorded_start x = record { same = refl; ready = x; clears = clears_start (record_faults (module_in ws)) (module_in ws).funcs }

  module _ (w : List ℕ) (f : ℕ) (x : Recorded ws w₀ w o f) where
    pub recorded_same : w ≡ w₀
    recorded_same = x.same

    pub recorded_ready : Ready ws w o
    recorded_ready = x.ready

    pub recorded_end : o.counts.funcs ≤ f → Ok tt ≡ judged_of (funcs_faults (module_in ws))
    unfolding funcs_faults record_faults
    recorded_end h = clears_passed (record_faults (module_in ws)) (module_in ws).funcs f x.clears
        (omega (arith, count_funcs ws o x.ready.opens))

    pub recorded_on : (v : List ℕ) → v ≡ w → v ≡ w₀
    recorded_on v e = e ∙ x.same

    module _ (h : f < o.counts.funcs) {v : Verdict} {r : Judged}
        (k : v ≡ verdict_of (func_faults (module_in ws) (func_at (module_in ws) f))) (g : r ≡ placed (in_function f) v) where
      here : r ≡ judged_of (record_faults (module_in ws) f (func_at (module_in ws) f))
      unfolding record_faults
      here = placed_faults_lem (in_function f) (func_faults (module_in ws) (func_at (module_in ws) f)) k g

      below : f < length (module_in ws).funcs
      below = omega (arith, count_funcs ws o x.ready.opens)

      pub recorded_next : (u : List ℕ) → u ≡ w → r ≡ Ok tt → Recorded ws w₀ u o (f + 1)
      unfolding func_at
      recorded_next u e z = record {
        same = e ∙ x.same;
        ready = ready_same ws w u o x.ready e;
        clears = clears_on (record_faults (module_in ws)) (module_in ws).funcs f x.clears no_func below z here;
      }

      pub recorded_stop : {d : LoadError} → r ≡ Err d → Err d ≡ judged_of (funcs_faults (module_in ws))
      unfolding funcs_faults record_faults func_at
      recorded_stop z = clears_refused (record_faults (module_in ws)) (module_in ws).funcs f x.clears no_func below z here

pub ruleset recording = (recorded_start, recorded_same, recorded_ready, recorded_end, recorded_on, recorded_next, recorded_stop)
