-- What an instruction calls, or makes: by number.
use Prim.Native.Nat.{ℕ, ◌+◌, ◌*◌, ◌≤◌, ◌<◌}
use mathlib.Core.Path.{◌≡◌, refl, ap, ap₂, ◌∙◌}
use mathlib.Core.List.{List, ◌++◌}
use native.Mathlib.Omega.{arith}
use lib.ListN.{length, get_or}
use Rattle.blocks.specs.Blocks.{words}
use Rattle.blocks.specs.Frame.{first_words}
use Rattle.blocks.proofs.FirstWords.{length_first_words}
use Rattle.error.specs.declared.LoadErrorKind.{LoadErrorKind}
use Rattle.error.specs.declared.LoadErrorKind.TheVariants.{CalleeHasCaptures}
use Rattle.error.specs.Verdict.{Verdict}
use Rattle.std.specs.Prelude.{Err, Ok}
use Rattle.error.specs.Answer.{unless}
use Rattle.error.specs.Verdict.{verdict_of}
use Rattle.error.specs.VerdictLaws.{verdict_then, verdict_stop}
use Rattle.reader.specs.Reader.{got}
use Rattle.sheet.specs.Module.{Import, Func, Module}
use Rattle.sheet.specs.Decode.{function_of}
use Rattle.open_layout.specs.Opened.{module_in}
use Rattle.imports.specs.Params.{sig_params}
use Rattle.open_sheet.specs.declared.Opened.{Opened}
use Rattle.open_sheet.specs.Ready.{Ready, pos_at}
use Rattle.open_sheet.specs.ReadyLaws.{funcs_in, entry_ends}
use Rattle.open_sheet.specs.MemberLaws.{func_sig}
use Rattle.code.specs.Callee.{no_func, func_at, import_at, no_captures}
use Rattle.code.specs.Code.{window_faults, arity_faults, direct_faults, most_arguments, fewest_arguments, import_call_faults}
use Rattle.rule_frames.specs.declared.Frame.{Frame}
use Rattle.rule_frames.specs.Frames.{func_of, Framed}
use Rattle.rule7_numbers.specs.Numbers.{window_in, capture_faults}
use Rattle.rule7_arguments.specs.Arguments.{fewest_at}
use Rattle.rule7_callees.specs.Callees.{Checkable}
use Rattle.rule7_callees.proofs.Words.{few_captures}

-- ── functions by number ──

module _ (b w : List ℕ) (o : Opened) (x : Ready (first_words b o.layout.words) w o) where
  abbrev ws : List ℕ
  ws = first_words b o.layout.words

  module _ (g : ℕ) (h : g < o.counts.funcs) where
    function : function_of ws (pos_at w o.index.funcs g) ≡ got (func_at (module_in ws) g) (pos_at w o.index.funcs (g + 1))
    unfolding func_at
    function = entry_ends function_of ws (module_in ws).funcs w o.index.funcs x.funcs no_func g (funcs_in ws w o x g h)

    pub callee_few : length (func_at (module_in ws) g).captures ≤ o.layout.words
    callee_few = omega (arith, few_captures ws _ (func_at (module_in ws) g) _ function, length_first_words b o.layout.words)

    pub callee_params_lem : {at s r : ℕ} → at ≡ pos_at w o.index.funcs g → s ≡ get_or (words b) at 0 → r ≡ length (sig_params (module_in ws) s)
        → r ≡ length (sig_params (module_in ws) (func_at (module_in ws) g).sig)
    unfolding func_at
    callee_params_lem e k y = y ∙ ap (λ t. length (sig_params (module_in ws) t)) (func_sig b w o x g h no_func e k)

-- ── calls ──

pub window_of : (ws : List ℕ) (c : Frame) (first n : ℕ) {r : Verdict} → Framed ws c → r ≡ verdict_of (window_in c.regs first n) → r ≡ verdict_of (window_faults (func_of ws c) first n)
unfolding window_in window_faults
window_of ws c first n x h = h ∙ ap (λ m. verdict_of (window_in m first n)) x.regs

module _ (b w : List ℕ) (o : Opened) (c : Frame) (x : Checkable (first_words b o.layout.words) w o c) (first n : ℕ) where
  abbrev sheet_words : List ℕ
  sheet_words = first_words b o.layout.words

  abbrev m : Module
  m = module_in sheet_words

  abbrev f : Func
  f = func_of sheet_words c

  module _ {v : Verdict} (h : v ≡ verdict_of (window_in c.regs first n)) where
    window : v ≡ verdict_of (window_faults f first n)
    window = window_of sheet_words c first n x.framed h

    -- ── of a function ──

    module _ (g : ℕ) where
      abbrev params : ℕ
      params = length (sig_params m (func_at m g).sig)

      abbrev others : List LoadErrorKind
      others = unless (no_captures (func_at m g)) CalleeHasCaptures

      pub direct_window : (k : LoadErrorKind) → v ≡ Err k → Err k ≡ verdict_of (direct_faults m f g first n)
      unfolding direct_faults
      direct_window k e =
          let xs = window_faults f first n in
          let ys = arity_faults params params n in
          verdict_stop (xs ++ ys) others k refl (verdict_stop xs ys k e window)

      module _ (e : v ≡ Ok tt) {p : ℕ} (y : p ≡ params) {u : Verdict} (z : u ≡ verdict_of (arity_faults p p n)) where
        both : u ≡ verdict_of (window_faults f first n ++ arity_faults params params n)
        both =
            verdict_then (window_faults f first n) (arity_faults params params n) e window (z ∙ ap (λ k. verdict_of (arity_faults k k n)) y)

        pub direct_arity : (k : LoadErrorKind) → u ≡ Err k → Err k ≡ verdict_of (direct_faults m f g first n)
        unfolding direct_faults
        direct_arity k a = verdict_stop (window_faults f first n ++ arity_faults params params n) others k a both

        pub direct_captures : {k : ℕ} {r : Verdict} → g < o.counts.funcs → u ≡ Ok tt → k ≡ get_or w (4 * o.layout.words + g) 0 →
            r ≡ verdict_of (capture_faults k) → r ≡ verdict_of (direct_faults m f g first n)
        unfolding direct_faults capture_faults no_captures func_at
        direct_captures {k} l a t q =
            let s : k ≡ length (func_at m g).captures =
            t ∙ x.tallied.captured.captures g no_func (funcs_in sheet_words w o x.ready g l) in
            verdict_then (window_faults f first n ++ arity_faults params params n) others a both (q ∙ ap (λ i. verdict_of (capture_faults i)) s)

    -- ── of an import ──

    module _ (j : ℕ) where
      abbrev i : Import
      i = import_at m j

      pub import_window : (k : LoadErrorKind) → v ≡ Err k → Err k ≡ verdict_of (import_call_faults m f j first n)
      unfolding import_call_faults
      import_window k e = verdict_stop (window_faults f first n) (arity_faults (fewest_arguments m i) (most_arguments m i) n) k e window

      pub import_arity : v ≡ Ok tt → {least most : ℕ} {r : Verdict} → j < o.counts.imports → least ≡ get_or w (fewest_at o + j) 0 →
          most ≡ most_arguments m i → r ≡ verdict_of (arity_faults least most n) → r ≡ verdict_of (import_call_faults m f j first n)
      unfolding import_call_faults
      import_arity e l a b z =
          verdict_then (window_faults f first n) (arity_faults (fewest_arguments m i) (most_arguments m i) n) e window
          (z ∙ ap₂ (λ p q. verdict_of (arity_faults p q n)) (a ∙ x.tallied.fewest.counts j l) b)
