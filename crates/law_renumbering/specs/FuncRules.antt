-- Rule 6 under a renumbering.
use Rattle.std.specs.Prelude.{◌≡◌, ◌&&◌, ℕ, length}
use Rattle.std.proofs.Math.Path.{refl, sym, ap}
use Rattle.std.proofs.Common.{◌∙◌}
use Rattle.std.proofs.Math.Bool.{true}
use mathlib.Core.List.{List, map}
use Rattle.std.proofs.Math.Dec.{leb}
use Rattle.std.proofs.lemmas.List.{length-map}
use Rattle.lists.specs.Lists.{all_of, is_front}
use Rattle.lists.specs.ListLaws.{and_first}
use Rattle.law_faults.specs.Together.{Together, ◌⊕◌, same_together, together_map, together_unless, together_each, together_all, together_good_from}
use Rattle.error.specs.declared.What.TheVariants.{Registers}
use Rattle.error.specs.declared.LoadErrorKind.TheVariants.{OutOfRange, ParamMismatch}
use Rattle.error.specs.Answer.{in_function}
use Rattle.sheet.specs.Module.{ValueType, Arg, Func, Module, type_at}
use Rattle.canon.specs.Canon.{canon_word}
use Rattle.types.specs.Types.{string_faults}
use Rattle.imports.specs.Params.{sig_params}
use Rattle.funcs.specs.Shapes.{valid_shape, shape_faults}
use Rattle.funcs.specs.Funcs.{most_registers, params_first, type_ref_faults, func_faults, funcs_faults}
use Rattle.sheet.specs.Coded.{coded_value, coded_inst, coded_func}
use Rattle.sheet.specs.DecodedLaws.{Coded}
use Rattle.renumber.specs.Renumber.{image, value_image, func_image, types_image, renumber}
use Rattle.law_renumbering.specs.Bijection.{Listed}
use Rattle.law_renumbering.specs.Images.{good_sig}
use Rattle.sheet.specs.TypeLaws.{good_at}
use Rattle.law_renumbering.specs.CanonMoved.{words_front}
use Rattle.law_renumbering.specs.Setting.{moved, range_moved, params_moved}
use Rattle.law_renumbering.specs.TypeRules.{values_together, string_together}
use Rattle.law_renumbering.specs.ImportRules.{signature_together, param_list_together}

module _ (r : List ℕ) (m : Module) (l : Listed (length m.types) r) (good : Coded m) where
  params_good : (s : ℕ) → all_of coded_value (sig_params m s) ≡ true
  unfolding sig_params
  params_good s = good_sig (image r) (type_at m.types s) (good_at m.types good.types s)

  params_first_lem : (s : ℕ) (rs : List ValueType) → all_of coded_value rs ≡ true →
      params_first m (sig_params m s) rs ≡ params_first (renumber r m) (sig_params (renumber r m) (image r s)) (map (value_image (image r)) rs)
  unfolding params_first renumber
  params_first_lem s rs g = sym (
      ap (λ (ps : List ValueType). is_front (map (canon_word (types_image r m.types)) ps) (map (canon_word (types_image r m.types)) (map (value_image (image r)) rs))) (params_moved r m l s)
      ∙ words_front (moved r m l) good.types (sig_params m s) rs (params_good s) g)

  shape_together : (args : List Arg) → Together (shape_faults m args) (shape_faults (renumber r m) args)
  unfolding shape_faults valid_shape renumber
  shape_together args = same_together refl

  type_ref_together : (t : ℕ) → Together (type_ref_faults m t) (type_ref_faults (renumber r m) (image r t))
  unfolding type_ref_faults renumber
  type_ref_together t = range_moved (moved r m l) t

  func_together : (f : Func) → coded_func f ≡ true → Together (func_faults m f) (func_faults (renumber r m) (func_image (image r) f))
  unfolding func_faults func_image coded_func
  func_together f g =
      let regs = all_of coded_value f.regs in
      let captures = all_of coded_value f.captures in
      let good_regs : regs ≡ true = and_first regs captures (and_first (regs && captures) (all_of coded_inst f.code) g) in
      signature_together r m l f.sig
      ⊕ values_together r m l f.regs
      ⊕ together_unless (OutOfRange Registers (length f.regs)) (OutOfRange Registers (length (map (value_image (image r)) f.regs)))
      (ap (λ (k : ℕ). leb k most_registers) (sym (length-map f.regs (value_image (image r)))))
      ⊕ together_unless ParamMismatch ParamMismatch (params_first_lem f.sig f.regs good_regs)
      ⊕ param_list_together r m l good f.params f.sig
      ⊕ together_all (shape_faults m) (shape_faults (renumber r m)) shape_together f.shapes
      ⊕ values_together r m l f.captures
      ⊕ together_all (string_faults m) (string_faults (renumber r m)) (string_together r m l) f.names
      ⊕ together_each (image r) (type_ref_faults m) (type_ref_faults (renumber r m)) type_ref_together f.type_refs

  pub funcs_together : Together (funcs_faults m) (funcs_faults (renumber r m))
  unfolding funcs_faults renumber
  funcs_together = together_good_from (func_image (image r)) coded_func
      (λ i f. map (in_function i) (func_faults m f)) (λ i f. map (in_function i) (func_faults (renumber r m) f))
      (λ i f g. together_map (in_function i) (in_function i) (func_together f g)) 0 m.funcs good.funcs
