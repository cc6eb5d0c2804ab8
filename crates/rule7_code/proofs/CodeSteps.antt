-- The code of a function, part by part, and of all functions.
use Prim.Native.Nat.{ℕ, ◌+◌, ◌*◌, ◌≤◌, ◌<◌}
use mathlib.Core.Path.{◌≡◌, refl, sym, ap, ◌∙◌}
use mathlib.Core.List.{List, [], ◌∷◌, ◌++◌, map}
use native.Mathlib.Omega.{arith}
use lib.ListN.{length}
use Rattle.blocks.specs.Frame.{first_words}
use Rattle.error.specs.declared.FuncId.{FuncId}
use Rattle.error.specs.declared.LoadError.{LoadError}
use Rattle.error.specs.Verdict.{Judged}
use Rattle.std.specs.Prelude.{Err, Ok}
use Rattle.error.specs.Answer.{in_function}
use Rattle.error.specs.Verdict.{judged_of}
use Rattle.error.specs.VerdictLaws.{none_refused, judged_then, judged_stop}
use Rattle.sheet.specs.Module.{Func, Module}
use Rattle.open_layout.specs.Opened.{module_in}
use Rattle.code.specs.Callee.{no_func, func_at}
use Rattle.code.specs.Code.{last_faults, code_faults, codes_faults}
use Rattle.region.specs.Region.{Off, Frame}
use Rattle.open_sheet.specs.declared.Opened.{Opened}
use Rattle.open_sheet.specs.Ready.{Ready, Above}
use Rattle.open_sheet.specs.ReadyLaws.{count_funcs, funcs_inside, above_refl, above_then, ready_above}
use Rattle.rule7_arguments.specs.Arguments.{Tallied}
use Rattle.rule7_arguments.specs.ArgumentLaws.{tallied_above}
use Rattle.law_judging.specs.Clearing.{Clears, clears_start, clears_passed, clears_on, clears_refused}
use Rattle.rule_frames.specs.declared.Frame as frames
use Rattle.rule_frames.specs.Frames.{func_of, Framed, Shaped}
use Rattle.rule7_parts.specs.CodeParts.{handlers_faults, tables_faults, parts_faults}
use Rattle.rule7_code.specs.Sweep.{insts_faults, Ends, Marked}
use Rattle.rule7_code.proofs.MarkSteps.{none_here, none_left}
use Rattle.rule7_parts.proofs.LastSteps.{code_inside}

-- ── no handler is broken ──

map_none : {A B : Type 0} (g : A → B) (xs : List A) → map g xs ≡ [] → xs ≡ []
map_none g [] e = refl
map_none g (x ∷ xs) e = let z : ◌≡◌ {A = ℕ} 0 1 = cc in absurd (omega arith)

pub parts_handlers : (n : ℕ) (f : Func) {r : Judged} → r ≡ Ok tt → r ≡ judged_of (parts_faults n f) → handlers_faults f ≡ []
unfolding parts_faults
parts_handlers n f e k =
    map_none (in_function n) (handlers_faults f)
    (none_left (last_faults n f) (map (in_function n) (handlers_faults f))
    (none_here (last_faults n f ++ map (in_function n) (handlers_faults f)) (map (in_function n) (tables_faults f)) (none_refused (parts_faults n f) e k)))

-- ── and then each instruction ──

joined : (m : Module) (n : ℕ) (f : Func) → code_faults m n f ≡ parts_faults n f ++ insts_faults m n f
unfolding code_faults parts_faults handlers_faults tables_faults insts_faults
joined m n f = refl

module _ (ws : List ℕ) (c : frames.Frame) (f : FuncId) {r : Judged} (h : c.func ≡ f) (k : r ≡ judged_of (parts_faults c.func.0 (func_of ws c))) where
  same_func : code_faults (module_in ws) c.func.0 (func_of ws c) ≡ code_faults (module_in ws) f.0 (func_at (module_in ws) f.0)
  unfolding func_of
  same_func = ap (λ (g : FuncId). code_faults (module_in ws) g.0 (func_at (module_in ws) g.0)) h

  pub code_stop : {d : LoadError} → r ≡ Err d → Err d ≡ judged_of (code_faults (module_in ws) f.0 (func_at (module_in ws) f.0))
  code_stop {d} e =
      judged_stop (parts_faults c.func.0 (func_of ws c)) (insts_faults (module_in ws) c.func.0 (func_of ws c)) d e k
      ∙ sym (ap judged_of (joined (module_in ws) c.func.0 (func_of ws c))) ∙ ap judged_of same_func

  pub code_last : {x : Judged} → r ≡ Ok tt → x ≡ judged_of (insts_faults (module_in ws) c.func.0 (func_of ws c)) → x ≡ judged_of (code_faults (module_in ws) f.0 (func_at (module_in ws) f.0))
  code_last e z =
      judged_then (parts_faults c.func.0 (func_of ws c)) (insts_faults (module_in ws) c.func.0 (func_of ws c)) e k z
      ∙ sym (ap judged_of (joined (module_in ws) c.func.0 (func_of ws c))) ∙ ap judged_of same_func

-- ── what stays as it was ──

module _ (o : Opened) where
  above_shapes : (w v : List ℕ) (n : ℕ) → Frame (Off (7 * o.layout.words) (7 * o.layout.words + n)) w v → Above o w v
  unfolding Above
  above_shapes w v n f = record { len = f.len; same = λ k h. f.same k (λ a b. omega arith) }

  above_marked : (ws w v : List ℕ) (c : frames.Frame) → Marked ws w v o c → Above o w v
  unfolding Above
  above_marked ws w v c x = record { len = x.frame.len; same = λ k h. x.frame.same k (λ a b. omega arith) }

-- a function's number is small
pub func_few : (ws w : List ℕ) (o : Opened) (c : frames.Frame) → Ready ws w o → Framed ws c → o.layout.words ≤ 520192 → c.func.0 + 1 < 4294967296
func_few ws w o c x y h = omega (arith, funcs_inside ws w o x, y.here)

-- ── shapes, then marks, then instructions ──

module _ (b w₀ w₁ : List ℕ) (o : Opened) (c : frames.Frame) (x : Ready (first_words b o.layout.words) w₀ o) (f : Frame (Off (7 * o.layout.words) (7 * o.layout.words + c.shapes)) w₀ w₁) where
  pub sweep_ready : Ready (first_words b o.layout.words) w₁ o
  sweep_ready = ready_above o (first_words b o.layout.words) w₀ w₁ x (above_shapes o w₀ w₁ c.shapes f)

  module _ (w₂ : List ℕ) (y : Marked (first_words b o.layout.words) w₁ w₂ o c) where
    pub sweep_above : Above o w₀ w₂
    sweep_above = above_then o w₀ w₁ w₂ (above_shapes o w₀ w₁ c.shapes f) (above_marked o (first_words b o.layout.words) w₁ w₂ c y)

    pub swept_ready : Ready (first_words b o.layout.words) w₂ o
    swept_ready = ready_above o (first_words b o.layout.words) w₀ w₂ x sweep_above

    pub swept_ends : Ends (first_words b o.layout.words) w₂ o c
    swept_ends = y.ends

    pub swept_length : length w₂ ≡ length w₀
    unfolding Above
    swept_length = sweep_above.len

    pub swept_tallied : Tallied (first_words b o.layout.words) w₀ o → Tallied (first_words b o.layout.words) w₂ o
    swept_tallied = tallied_above (first_words b o.layout.words) w₀ o x w₂ sweep_above

pub swept_shaped : (b w₁ w₂ : List ℕ) (o : Opened) (c : frames.Frame) → Framed (first_words b o.layout.words) c → Marked (first_words b o.layout.words) w₁ w₂ o c →
    Shaped (first_words b o.layout.words) w₁ o c → Shaped (first_words b o.layout.words) w₂ o c
swept_shaped b w₁ w₂ o c x y z = record {
  lengths = λ k h. y.frame.same (7 * o.layout.words + k) (λ l m. omega (arith, code_inside b o.layout.words c x)) ∙ z.lengths k h;
}

-- ── functions by number ──

pub record Coded (ws w₀ w : List ℕ) (o : Opened) (f : ℕ) : Type 0 where
  pub ready : Ready ws w o
  pub tallied : Tallied ws w o
  pub above : Above o w₀ w
  pub clears : Clears (code_faults (module_in ws)) (module_in ws).funcs f

module _ (ws w₀ : List ℕ) (o : Opened) where
  pub coded_start : Ready ws w₀ o → Tallied ws w₀ o → Coded ws w₀ w₀ o 0
  coded_start x y = record {
    ready = x;
    tallied = y;
    above = above_refl o w₀;
    clears = clears_start (code_faults (module_in ws)) (module_in ws).funcs;
  }

  module _ (w : List ℕ) (f : ℕ) (x : Coded ws w₀ w o f) where
    pub coded_length : length w ≡ length w₀
    unfolding Above
    coded_length = x.above.len

    pub coded_above : Above o w₀ w
    coded_above = x.above

    pub coded_ready : Ready ws w o
    coded_ready = x.ready

    pub coded_tallied : Tallied ws w o
    coded_tallied = x.tallied

    pub coded_end : o.counts.funcs ≤ f → Ok tt ≡ judged_of (codes_faults (module_in ws))
    unfolding codes_faults
    coded_end h = clears_passed (code_faults (module_in ws)) (module_in ws).funcs f x.clears (omega (arith, count_funcs ws o x.ready.opens))

    module _ (h : f < o.counts.funcs) (v : List ℕ) {r : Judged} (a : Above o w v) (k : r ≡ judged_of (code_faults (module_in ws) f (func_at (module_in ws) f))) where
      below : f < length (module_in ws).funcs
      below = omega (arith, count_funcs ws o x.ready.opens)

      pub coded_on : Above o w₀ v
      coded_on = above_then o w₀ w v x.above a

      pub coded_next : r ≡ Ok tt → Coded ws w₀ v o (f + 1)
      unfolding func_at
      coded_next e = record {
        ready = ready_above o ws w v x.ready a;
        tallied = tallied_above ws w o x.ready v a x.tallied;
        above = coded_on;
        clears = clears_on (code_faults (module_in ws)) (module_in ws).funcs f x.clears no_func below e k;
      }

      pub coded_stop : {d : LoadError} → r ≡ Err d → Err d ≡ judged_of (codes_faults (module_in ws))
      unfolding codes_faults func_at
      coded_stop e = clears_refused (code_faults (module_in ws)) (module_in ws).funcs f x.clears no_func below e k

pub ruleset coding = (coded_start, coded_above, coded_ready, coded_tallied, coded_end, coded_on, coded_next, coded_stop)
