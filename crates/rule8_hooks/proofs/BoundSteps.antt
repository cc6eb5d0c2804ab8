-- What a hook is bound to, judged step by step.
use Prim.Native.Nat.{ℕ, ◌+◌, ◌*◌, ◌<◌}
use mathlib.Core.Path.{◌≡◌, refl, sym, ap, ◌∙◌}
use mathlib.Core.List.{List, [], ◌++◌}
use mathlib.Core.Bool.{Bool, true, false, ◌&&◌}
use lib.Dec.{eqb, ltb}
use lib.ListN.{length, get_or}
use borrow.Author.Tests.{eq-eqb, ne_eqb, ltb-true}
use Rattle.blocks.specs.Blocks.{words}
use Rattle.blocks.specs.Frame.{first_words}
use Rattle.error.specs.declared.What.{What}
use Rattle.error.specs.declared.What.TheVariants.{Functions, Imports}
use Rattle.error.specs.declared.LoadErrorKind.{LoadErrorKind}
use Rattle.error.specs.declared.LoadErrorKind.TheVariants.{OutOfRange, BadHook}
use Rattle.std.specs.Prelude.{Err, Ok}
use Rattle.error.specs.Answer.{unless, in_range}
use Rattle.error.specs.Verdict.{Verdict, verdict_of}
use Rattle.error.specs.VerdictLaws.{none_broken, verdict_then, verdict_stop}
use Rattle.imports.specs.Params.{sig_params, sig_results}
use Rattle.code.specs.Callee.{no_func, no_import, func_at, import_at, no_captures}
use Rattle.hooks.specs.Hooks.{hook_shape, hook_fits, hook_function_faults, hook_import_faults}
use Rattle.open_layout.specs.Opened.{module_in}
use Rattle.open_sheet.specs.declared.Opened.{Opened}
use Rattle.open_sheet.specs.Ready.{Ready, pos_at, Captured}
use Rattle.open_sheet.specs.ReadyLaws.{count_funcs, count_imports, funcs_in, imports_in}
use Rattle.open_sheet.specs.MemberLaws.{func_sig, import_sig}
use Rattle.rule8_hooks.specs.Bindings.{function_fits, import_fits}

-- ── a number in range, and then one rule ──

module _ (what : What) (n i : ℕ) {r : Verdict} (e : r ≡ verdict_of (in_range what n i)) where
  pub range_below : r ≡ Ok tt → i < n
  range_below h = go (ltb i n) refl (none_broken (in_range what n i) h e)
    where
      go : (t : Bool) → ltb i n ≡ t → unless t (OutOfRange what i) ≡ [] → i < n
      go true k z = ltb-true i n k
      go false k z = cc

  module _ (k : LoadErrorKind) (t : Bool) where
    bound_stop : {b : LoadErrorKind} → r ≡ Err b → Err b ≡ verdict_of (in_range what n i ++ unless t k)
    bound_stop {b} h = verdict_stop (in_range what n i) (unless t k) b h e

    bound_then : {x : Verdict} → r ≡ Ok tt → {y : Bool} → t ≡ y → x ≡ verdict_of (unless y k) → x ≡ verdict_of (in_range what n i ++ unless t k)
    bound_then h z u = verdict_then (in_range what n i) (unless t k) h e (u ∙ ap (λ (y : Bool). verdict_of (unless y k)) (sym z))

-- ── a function ──

module _ (b w : List ℕ) (o : Opened) (x : Ready (first_words b o.layout.words) w o) (f : ℕ) (h : f < o.counts.funcs) where
  abbrev ws : List ℕ
  ws = first_words b o.layout.words

  inside : f < length (module_in ws).funcs
  inside = funcs_in ws w o x f h

  module _ (k : ℕ) (y : Captured ws w o) {c : ℕ} (e : c ≡ get_or w (4 * o.layout.words + f) 0) where
    captures : (v : Bool) → eqb c 0 ≡ v
        → (v && hook_fits (hook_shape k) (sig_params (module_in ws) (func_at (module_in ws) f).sig) (sig_results (module_in ws) (func_at (module_in ws) f).sig)) ≡ function_fits (module_in ws) k f
    unfolding function_fits no_captures func_at
    captures v z =
        ap (λ i. i && hook_fits (hook_shape k) (sig_params (module_in ws) (func_at (module_in ws) f).sig) (sig_results (module_in ws) (func_at (module_in ws) f).sig))
        (sym z ∙ ap (λ i. eqb i 0) (e ∙ y.captures f no_func inside))

    pub function_fits_lem : {p s : ℕ} {r : Bool} → c ≡ 0 → p ≡ pos_at w o.index.funcs f → s ≡ get_or (words b) p 0
        → r ≡ hook_fits (hook_shape k) (sig_params (module_in ws) s) (sig_results (module_in ws) s) → r ≡ function_fits (module_in ws) k f
    unfolding func_at
    function_fits_lem z u v q =
        q ∙ ap (λ s. hook_fits (hook_shape k) (sig_params (module_in ws) s) (sig_results (module_in ws) s)) (func_sig b w o x f h no_func u v) ∙ captures true (eq-eqb c 0 z)

    pub function_captures : (c ≡ 0 → ⊥) → false ≡ function_fits (module_in ws) k f
    function_captures z = captures false (ne_eqb c 0 z)

module _ (ws w : List ℕ) (o : Opened) (x : Ready ws w o) (k f : ℕ) {r : Verdict} (e : r ≡ verdict_of (in_range Functions o.counts.funcs f)) where
  counted : r ≡ verdict_of (in_range Functions (length (module_in ws).funcs) f)
  counted = e ∙ ap (λ (n : ℕ). verdict_of (in_range Functions n f)) (count_funcs ws o x.opens)

  pub function_stop : {b : LoadErrorKind} → r ≡ Err b → Err b ≡ verdict_of (hook_function_faults (module_in ws) k f)
  unfolding hook_function_faults function_fits
  function_stop = bound_stop Functions (length (module_in ws).funcs) f counted (BadHook k) (function_fits (module_in ws) k f)

  module _ {s : Bool} (h : r ≡ Ok tt) (d : s ≡ function_fits (module_in ws) k f) where
    pub function_holds : s ≡ true → Ok tt ≡ verdict_of (hook_function_faults (module_in ws) k f)
    unfolding hook_function_faults function_fits verdict_of
    function_holds z = bound_then Functions (length (module_in ws).funcs) f counted (BadHook k) (function_fits (module_in ws) k f) h (sym d ∙ z) refl

    pub function_broken : s ≡ false → Err (BadHook k) ≡ verdict_of (hook_function_faults (module_in ws) k f)
    unfolding hook_function_faults function_fits verdict_of
    function_broken z = bound_then Functions (length (module_in ws).funcs) f counted (BadHook k) (function_fits (module_in ws) k f) h (sym d ∙ z) refl

-- ── an import ──

module _ (b w : List ℕ) (o : Opened) (x : Ready (first_words b o.layout.words) w o) (i : ℕ) (h : i < o.counts.imports) where
  abbrev ws₂ : List ℕ
  ws₂ = first_words b o.layout.words

  inside₂ : i < length (module_in ws₂).imports
  inside₂ = imports_in ws₂ w o x i h

  module _ {p : ℕ} (e : p ≡ pos_at w o.index.imports i) where
    pub import_fits_lem : (k : ℕ) {s : ℕ} {r : Bool} → s ≡ get_or (words b) (p + 2) 0
        → r ≡ hook_fits (hook_shape k) (sig_params (module_in ws₂) s) (sig_results (module_in ws₂) s) → r ≡ import_fits (module_in ws₂) k i
    unfolding import_fits import_at
    import_fits_lem k u q = q ∙ ap (λ s. hook_fits (hook_shape k) (sig_params (module_in ws₂) s) (sig_results (module_in ws₂) s)) (import_sig b w o x i h e no_import u)

module _ (ws w : List ℕ) (o : Opened) (x : Ready ws w o) (k i : ℕ) {r : Verdict} (e : r ≡ verdict_of (in_range Imports o.counts.imports i)) where
  counted₂ : r ≡ verdict_of (in_range Imports (length (module_in ws).imports) i)
  counted₂ = e ∙ ap (λ (n : ℕ). verdict_of (in_range Imports n i)) (count_imports ws o x.opens)

  pub import_stop : {b : LoadErrorKind} → r ≡ Err b → Err b ≡ verdict_of (hook_import_faults (module_in ws) k i)
  unfolding hook_import_faults import_fits
  import_stop = bound_stop Imports (length (module_in ws).imports) i counted₂ (BadHook k) (import_fits (module_in ws) k i)

  module _ {s : Bool} (h : r ≡ Ok tt) (d : s ≡ import_fits (module_in ws) k i) where
    pub import_holds : s ≡ true → Ok tt ≡ verdict_of (hook_import_faults (module_in ws) k i)
    unfolding hook_import_faults import_fits verdict_of
    import_holds z = bound_then Imports (length (module_in ws).imports) i counted₂ (BadHook k) (import_fits (module_in ws) k i) h (sym d ∙ z) refl

    pub import_broken : s ≡ false → Err (BadHook k) ≡ verdict_of (hook_import_faults (module_in ws) k i)
    unfolding hook_import_faults import_fits verdict_of
    import_broken z = bound_then Imports (length (module_in ws).imports) i counted₂ (BadHook k) (import_fits (module_in ws) k i) h (sym d ∙ z) refl
