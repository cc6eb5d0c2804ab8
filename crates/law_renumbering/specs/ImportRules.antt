-- Rules 4 and 5 under a renumbering.
use Rattle.std.specs.Prelude.{◌≡◌, Bool, ◌&&◌, ◌||◌, leb, length, None, Some}
use Rattle.std.proofs.Math.Path.{refl, sym, ap, ap₂}
use Rattle.std.proofs.Common.{◌∙◌}
use Rattle.std.proofs.Math.Bool.{not}
use mathlib.Core.List.{List, [], ◌∷◌, map}
use Prim.Native.Nat.{ℕ, zero, suc}
use Rattle.std.proofs.Math.Dec.{eqb}
use Rattle.std.proofs.lemmas.List.{length-map}
use Rattle.lists.specs.Lists.{all_pairs}
use Rattle.law_faults.specs.Together.{Together, ◌⊕◌, same_together, both_empty, together_map, together_unless, together_each, together_all_from}
use Rattle.error.specs.declared.LoadErrorKind.TheVariants.{BadSignature, BadParamList}
use Rattle.error.specs.Answer.{in_module}
use Rattle.sheet.specs.Module.{ValueType, basic, ref, dyn, TypeDef, cell, Sig, Const, plain, Param, ParamList, Import, Global, Module, type_at, sig_of}
use Rattle.host.specs.Host.{HostFn, is_scheduler}
use Rattle.consts.specs.Consts.{depths, string_const_faults, const_faults, consts_faults}
use Rattle.canon.specs.Canon.{same_type}
use Rattle.imports.specs.Params.{is_signature, signature_faults, sig_params, sig_results, valid_params, taken_by_reference, fits_one, fits, param_list_faults}
use Rattle.imports.specs.Imports.{one_dyn, host_entry, scheduler_fits, import_faults, imports_faults, init_faults, global_faults, globals_faults}
use Rattle.sheet.specs.Coded.{coded_value, coded_type}
use Rattle.sheet.specs.DecodedLaws.{Coded}
use Rattle.renumber.specs.Renumber.{image, value_image, sig_image, type_image, import_image, global_image, renumber}
use Rattle.law_renumbering.specs.Bijection.{Listed, origins, bijection}
use Rattle.law_renumbering.specs.Images.{is_func_image, sig_image_lem, dyn_image, same_type_image}
use Rattle.sheet.specs.TypeLaws.{good_at}
use Rattle.law_renumbering.specs.Setting.{moved, range_moved, params_moved, results_moved}
use Rattle.law_renumbering.specs.TypeRules.{value_together}

-- ── rule 4 does not mention types ──

string_const_lem : (r : List ℕ) (m : Module) (k : Const) → string_const_faults m k ≡ string_const_faults (renumber r m) k
unfolding string_const_faults renumber
string_const_lem r m (plain l h) = refl
string_const_lem r m (Const.string s) = refl
string_const_lem r m (Const.array items) = refl
string_const_lem r m (Const.map entries) = refl

const_together : (most : ℕ) (r : List ℕ) (m : Module) (ds : List ℕ) (i : ℕ) (k : Const) → Together (const_faults most m ds i k) (const_faults most (renumber r m) ds i k)
unfolding const_faults
const_together most r m ds i k = same_together (string_const_lem r m k) ⊕ same_together refl ⊕ same_together refl

pub consts_together : (most : ℕ) (r : List ℕ) (m : Module) → Together (consts_faults most m) (consts_faults most (renumber r m))
unfolding consts_faults renumber
consts_together most r m = together_map in_module in_module
    (together_all_from (const_faults most m (depths m.consts)) (const_faults most (renumber r m) (depths m.consts)) (const_together most r m (depths m.consts)) 0 m.consts)

-- ── signatures ──

pub one_dyn_image : (π : ℕ → ℕ) (vs : List ValueType) → one_dyn (map (value_image π) vs) ≡ one_dyn vs
unfolding one_dyn
one_dyn_image π [] = refl
one_dyn_image π (v ∷ []) = dyn_image π v
one_dyn_image π (v ∷ w ∷ vs) = refl

signature_image : (π : ℕ → ℕ) (d : TypeDef) → is_signature (type_image π d) ≡ is_signature d
unfolding is_signature sig_image
signature_image π d =
    ap₂ (λ (a : Bool) (k : ℕ). a && leb k 1) (is_func_image π d)
    (ap (λ (s : Sig). length s.results) (sig_image_lem π d) ∙ length-map (sig_of d).results (value_image π))

module _ (r : List ℕ) (m : Module) (l : Listed (length m.types) r) where
  pub signature_together : (s : ℕ) → Together (signature_faults m s) (signature_faults (renumber r m) (image r s))
  unfolding signature_faults renumber
  signature_together s =
      range_moved (moved r m l) s
      ⊕ together_unless BadSignature BadSignature (sym (ap is_signature ((moved r m l).at s) ∙ signature_image (image r) (type_at m.types s)))

  -- ── parameter lists ──

  module _ (good : Coded m) where
    by_reference_lem : (v : ValueType) → taken_by_reference (renumber r m) (value_image (image r) v) ≡ taken_by_reference m v
    unfolding taken_by_reference value_image renumber coded_type coded_value type_image
    by_reference_lem (basic k) = refl
    by_reference_lem (ref t) =
        ap (λ (d : TypeDef). same_type d (cell dyn)) ((moved r m l).at t)
        ∙ same_type_image (image r) (origins r) (bijection (length m.types) r l).back (type_at m.types t) (cell dyn) (good_at m.types good.types t) refl

    pairs_fit : (ps : List Param) (vs : List ValueType) → all_pairs (fits_one (renumber r m)) ps (map (value_image (image r)) vs) ≡ all_pairs (fits_one m) ps vs
    unfolding fits_one renumber
    pairs_fit [] vs = refl
    pairs_fit (p ∷ ps) [] = refl
    pairs_fit (p ∷ ps) (v ∷ vs) = rw (by_reference_lem v, pairs_fit ps vs)

    list_fits : (ps : List Param) (vs : List ValueType) → fits (renumber r m) ps (map (value_image (image r)) vs) ≡ fits m ps vs
    unfolding fits
    list_fits ps vs = ap₂ (λ (n : ℕ) (b : Bool). eqb (length ps) n && b) (length-map vs (value_image (image r))) (pairs_fit ps vs)

    param_list : (o : ParamList) (vs : List ValueType) → Together (param_list_faults m o vs) (param_list_faults (renumber r m) o (map (value_image (image r)) vs))
    unfolding param_list_faults
    param_list None vs = both_empty refl refl
    param_list (Some ps) vs = together_unless BadParamList BadParamList (ap (λ (b : Bool). valid_params ps && b) (sym (list_fits ps vs)))

    pub param_list_together : (o : ParamList) (s : ℕ) →
        Together (param_list_faults m o (sig_params m s)) (param_list_faults (renumber r m) o (sig_params (renumber r m) (image r s)))
    param_list_together o s = rw (params_moved r m l s) (param_list o (sig_params m s))

    -- ── imports ──

    scheduler_fits_lem : (hosts : List HostFn) (i : Import) → scheduler_fits m hosts i ≡ scheduler_fits (renumber r m) hosts (import_image (image r) i)
    unfolding scheduler_fits host_entry import_image renumber
    scheduler_fits_lem hosts i = sym (ap₂ (λ (a b : Bool). not (is_scheduler hosts (host_entry m hosts i)) || (a && b))
        (ap one_dyn (params_moved r m l i.sig) ∙ one_dyn_image (image r) (sig_params m i.sig))
        (ap one_dyn (results_moved r m l i.sig) ∙ one_dyn_image (image r) (sig_results m i.sig)))

    import_together : (hosts : List HostFn) (i : Import) → Together (import_faults hosts m i) (import_faults hosts (renumber r m) (import_image (image r) i))
    unfolding import_faults host_entry import_image renumber
    import_together hosts i =
        signature_together i.sig
        ⊕ same_together refl
        ⊕ same_together refl
        ⊕ together_unless BadSignature BadSignature (scheduler_fits_lem hosts i)
        ⊕ param_list_together i.params i.sig

    pub imports_together : (hosts : List HostFn) → Together (imports_faults hosts m) (imports_faults hosts (renumber r m))
    unfolding imports_faults renumber
    imports_together hosts = together_map in_module in_module
        (together_each (import_image (image r)) (import_faults hosts m) (import_faults hosts (renumber r m)) (import_together hosts) m.imports)

  -- ── globals ──

  init_together : (k : ℕ) → Together (init_faults m k) (init_faults (renumber r m) k)
  unfolding init_faults renumber
  init_together zero = both_empty refl refl
  init_together (suc k) = same_together refl

  global_together : (g : Global) → Together (global_faults m g) (global_faults (renumber r m) (global_image (image r) g))
  unfolding global_faults global_image
  global_together g = value_together r m l g.type ⊕ init_together g.init+

  pub globals_together : Together (globals_faults m) (globals_faults (renumber r m))
  unfolding globals_faults renumber
  globals_together = together_map in_module in_module
      (together_each (global_image (image r)) (global_faults m) (global_faults (renumber r m)) global_together m.globals)
