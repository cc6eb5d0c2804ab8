-- Rule 8 under a renumbering.
use Rattle.std.specs.Prelude.{◌≡◌, Bool, cond, ◌&&◌, ◌||◌, get_or, take}
use Rattle.std.proofs.Math.Path.{refl, sym, ap, ap₂}
use Rattle.std.proofs.Common.{◌∙◌}
use Rattle.std.proofs.Math.Bool.{true, false, not}
use mathlib.Core.List.{List, [], ◌∷◌, map}
use Prim.Native.Nat.{ℕ, zero, suc, ◌<◌}
use Rattle.std.proofs.Math.Dec.{eqb, ltb}
use Rattle.std.proofs.Math.ListN.{length}
use Rattle.std.proofs.lemmas.List.{length-map}
use Rattle.lists.specs.Lists.{all_of, any_of, same}
use Rattle.law_faults.specs.Empty.{append_empty, range_empty}
use Rattle.law_faults.specs.Together.{Together, both_empty, together_then, ◌⊕◌, together_map, together_unless, together_range}
use Rattle.law_faults.specs.Together.{together_each_from, together_all}
use Rattle.error.specs.declared.What.TheVariants.{Types, Functions, Imports, Globals}
use Rattle.error.specs.declared.LoadErrorKind.TheVariants.{BadHook, BadStart, CalleeHasCaptures, ExportNameOutOfRange, DuplicateExport}
use Rattle.error.specs.Answer.{in_module, unless, in_range, string_number}
use Rattle.sheet.specs.Module.{ValueType, is_dyn, Import, Func, Hook, Export, Module}
use Rattle.sheet.specs.Editions.{reads_export_names}
use Rattle.imports.specs.Params.{sig_params, sig_results}
use Rattle.code.specs.Callee.{func_at, import_at}
use Rattle.hooks.specs.Hooks.{HookShape, hook_shape, result_fits, hook_fits, hook_function_faults, hook_import_faults, hook_faults, hooks_faults}
use Rattle.hooks.specs.Hooks.{is_start, start_at_faults, start_faults, index_faults, name_bytes, is_duplicate, name_faults, export_faults}
use Rattle.hooks.specs.Hooks.{exports_faults}
use Rattle.renumber.specs.Renumber.{image, value_image, func_image, import_image, export_image, renumber}
use Rattle.law_renumbering.specs.Bijection.{Listed}
use Rattle.law_renumbering.specs.Images.{dyn_image}
use Rattle.law_renumbering.specs.Setting.{moved, range_moved, params_moved, results_moved, results_count}
use Rattle.law_renumbering.specs.TypeRules.{function_range}
use Rattle.law_renumbering.specs.ImportRules.{one_dyn_image}
use Rattle.law_renumbering.specs.CodeRules.{func_known, import_known, func_params, no_captures_lem}

-- ── hooks ──

all_dyn_image : (π : ℕ → ℕ) (vs : List ValueType) → all_of is_dyn (map (value_image π) vs) ≡ all_of is_dyn vs
all_dyn_image π [] = refl
all_dyn_image π (v ∷ vs) = ap₂ (λ (a b : Bool). a && b) (dyn_image π v) (all_dyn_image π vs)

result_image : (π : ℕ → ℕ) (b : Bool) (vs : List ValueType) → result_fits b (map (value_image π) vs) ≡ result_fits b vs
unfolding result_fits
result_image π true vs = one_dyn_image π vs
result_image π false vs = ap (λ (k : ℕ). eqb k 0) (length-map vs (value_image π))

hook_image : (π : ℕ → ℕ) (s : HookShape) (ps rs : List ValueType) →
    hook_fits s (map (value_image π) ps) (map (value_image π) rs) ≡ hook_fits s ps rs
unfolding hook_fits
hook_image π s ps rs = rw (length-map ps (value_image π), all_dyn_image π ps, result_image π s.result rs)

module _ (r : List ℕ) (m : Module) (l : Listed (length m.types) r) where
  hook_moved : (h s : ℕ) → hook_fits (hook_shape h) (sig_params m s) (sig_results m s) ≡
      hook_fits (hook_shape h) (sig_params (renumber r m) (image r s)) (sig_results (renumber r m) (image r s))
  hook_moved h s = sym (ap₂ (hook_fits (hook_shape h)) (params_moved r m l s) (results_moved r m l s)
      ∙ hook_image (image r) (hook_shape h) (sig_params m s) (sig_results m s))

  func_fits : (h g : ℕ) → g < length m.funcs → hook_fits (hook_shape h) (sig_params m (func_at m g).sig) (sig_results m (func_at m g).sig) ≡
      hook_fits (hook_shape h) (sig_params (renumber r m) (func_at (renumber r m) g).sig) (sig_results (renumber r m) (func_at (renumber r m) g).sig)
  unfolding func_image
  func_fits h g k = hook_moved h (func_at m g).sig
      ∙ sym (ap (λ (f : Func). hook_fits (hook_shape h) (sig_params (renumber r m) f.sig) (sig_results (renumber r m) f.sig)) (func_known r m l g k))

  import_fits_lem : (h g : ℕ) → g < length m.imports →
      hook_fits (hook_shape h) (sig_params m (import_at m g).sig) (sig_results m (import_at m g).sig) ≡
      hook_fits (hook_shape h) (sig_params (renumber r m) (import_at (renumber r m) g).sig) (sig_results (renumber r m) (import_at (renumber r m) g).sig)
  unfolding import_image
  import_fits_lem h g k = hook_moved h (import_at m g).sig
      ∙ sym (ap (λ (i : Import). hook_fits (hook_shape h) (sig_params (renumber r m) i.sig) (sig_results (renumber r m) i.sig)) (import_known r m l g k))

  hook_function : (h g : ℕ) → Together (hook_function_faults m h g) (hook_function_faults (renumber r m) h g)
  unfolding hook_function_faults
  hook_function h g = together_then (function_range r m l g) (λ e.
      let k = (range_empty Functions (length m.funcs) g).0 e in
      together_unless (BadHook h) (BadHook h) (ap₂ (λ (a b : Bool). a && b) (no_captures_lem r m l g k) (func_fits h g k)))

  import_range : (g : ℕ) → Together (in_range Imports (length m.imports) g) (in_range Imports (length (renumber r m).imports) g)
  unfolding renumber
  import_range g = together_range Imports _ g _ g (ap (ltb g) (sym (length-map m.imports _)))

  hook_import : (h g : ℕ) → Together (hook_import_faults m h g) (hook_import_faults (renumber r m) h g)
  unfolding hook_import_faults
  hook_import h g = together_then (import_range g) (λ e.
      together_unless (BadHook h) (BadHook h) (import_fits_lem h g ((range_empty Imports (length m.imports) g).0 e)))

  hook_together : (b : Hook) → Together (hook_faults m b) (hook_faults (renumber r m) b)
  unfolding hook_faults
  hook_together b = go (eqb b.kind 0)
    where
      go : (c : Bool) → Together
          (cond c (hook_function_faults m b.hook b.index) (hook_import_faults m b.hook b.index))
          (cond c (hook_function_faults (renumber r m) b.hook b.index) (hook_import_faults (renumber r m) b.hook b.index))
      go true = hook_function b.hook b.index
      go false = hook_import b.hook b.index

  pub hooks_together : Together (hooks_faults m) (hooks_faults (renumber r m))
  unfolding hooks_faults renumber
  hooks_together = together_map in_module in_module (together_all (hook_faults m) (hook_faults (renumber r m)) hook_together m.hooks)

  -- ── start ──

  func_results : (g : ℕ) → g < length m.funcs →
      length (sig_results m (func_at m g).sig) ≡ length (sig_results (renumber r m) (func_at (renumber r m) g).sig)
  unfolding func_image
  func_results g h = sym (ap (λ (f : Func). length (sig_results (renumber r m) f.sig)) (func_known r m l g h)
      ∙ results_count r m l (func_at m g).sig)

  start_moved : (g : ℕ) → g < length m.funcs → is_start m (func_at m g) ≡ is_start (renumber r m) (func_at (renumber r m) g)
  unfolding is_start
  start_moved g h = ap₂ (λ (a b : ℕ). eqb a 0 && eqb b 0) (func_params r m l g h) (func_results g h)

  start_at : (k : ℕ) → Together (start_at_faults m k) (start_at_faults (renumber r m) k)
  unfolding start_at_faults
  start_at zero = both_empty refl refl
  start_at (suc g) = together_then (together_then (function_range r m l g) (λ e. together_unless BadStart BadStart (start_moved g ((range_empty Functions (length m.funcs) g).0 e))))
      (λ e. together_unless CalleeHasCaptures CalleeHasCaptures (no_captures_lem r m l g ((range_empty Functions (length m.funcs) g).0 ((append_empty (in_range Functions (length m.funcs) g) (unless (is_start m (func_at m g)) BadStart)).0 e).0)))

  pub start_together : Together (start_faults m) (start_faults (renumber r m))
  unfolding start_faults renumber
  start_together = together_map in_module in_module (start_at m.start+)

  -- ── exports ──

  export_kind : (k i : ℕ) → Together
      (get_or (in_range Functions (length m.funcs) i ∷ in_range Globals (length m.globals) i ∷ in_range Types (length m.types) i ∷ []) k [])
      (get_or
      (in_range Functions (length (renumber r m).funcs) (cond (eqb k 2) (image r i) i)
      ∷ in_range Globals (length (renumber r m).globals) (cond (eqb k 2) (image r i) i)
      ∷ in_range Types (length (renumber r m).types) (cond (eqb k 2) (image r i) i)
      ∷ []) k [])
  unfolding renumber
  export_kind zero i = function_range r m l i
  export_kind (suc zero) i = together_range Globals _ i _ i (ap (ltb i) (sym (length-map m.globals _)))
  export_kind (suc (suc zero)) i = range_moved (moved r m l) i
  export_kind (suc (suc (suc k))) i = both_empty refl refl

  index_together : (e : Export) → Together (index_faults m e) (index_faults (renumber r m) (export_image (image r) e))
  unfolding index_faults export_image
  index_together e = export_kind e.kind e.index

  -- a name is no mention of a type
  duplicate_kept : (i : ℕ) (e : Export) → is_duplicate m i e ≡ is_duplicate (renumber r m) i (export_image (image r) e)
  unfolding is_duplicate name_bytes export_image renumber
  duplicate_kept i e = go i m.exports
    where
      go : (i : ℕ) (es : List Export) → any_of (λ d. same (name_bytes m d) (name_bytes m e)) (take i es) ≡
          any_of (λ d. same (name_bytes (renumber r m) d) (name_bytes (renumber r m) (export_image (image r) e)))
          (take i (map (export_image (image r)) es))
      go zero es = refl
      go (suc i) [] = refl
      go (suc i) (d ∷ es) = ap (λ (b : Bool). same (name_bytes m d) (name_bytes m e) || b) (go i es)

  name_together : (i : ℕ) (e : Export) → Together (name_faults m i e) (name_faults (renumber r m) i (export_image (image r) e))
  unfolding name_faults export_image renumber
  name_together i e =
      let k = ExportNameOutOfRange (string_number e.name) in
      together_unless {b = ltb e.name (length m.strings)} k k refl
      ⊕ together_unless (DuplicateExport i) (DuplicateExport i) (ap not (duplicate_kept i e))

  export_together : (i : ℕ) (e : Export) → Together (export_faults m i e) (export_faults (renumber r m) i (export_image (image r) e))
  unfolding export_faults renumber
  export_together i e = index_together e ⊕ go (reads_export_names m.edition)
    where
      go : (b : Bool) → Together (cond b (name_faults m i e) []) (cond b (name_faults (renumber r m) i (export_image (image r) e)) [])
      go true = name_together i e
      go false = both_empty refl refl

  pub exports_together : Together (exports_faults m) (exports_faults (renumber r m))
  unfolding exports_faults renumber
  exports_together =
      together_map in_module in_module
      (together_each_from (export_image (image r)) (export_faults m) (export_faults (renumber r m)) export_together 0 m.exports)
