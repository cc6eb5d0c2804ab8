-- Rule 6 in parts, as code judges them.
use Rattle.std.specs.Prelude.{List, ◌++◌, leb, length}
use Rattle.lists.specs.Lists.{concat_map}
use Rattle.error.specs.declared.What.TheVariants.{Registers}
use Rattle.error.specs.declared.LoadErrorKind.{LoadErrorKind}
use Rattle.error.specs.declared.LoadErrorKind.TheVariants.{OutOfRange, ParamMismatch}
use Rattle.error.specs.Answer.{unless}
use Rattle.sheet.specs.Module.{Func, Module}
use Rattle.types.specs.Types.{value_faults, string_faults}
use Rattle.imports.specs.Params.{signature_faults, sig_params, param_list_faults}
use Rattle.funcs.specs.Shapes.{shape_faults}
use Rattle.funcs.specs.Funcs.{most_registers, params_first, type_ref_faults}

-- register types, their number
unfoldable pub registers_faults : Module → Func → List LoadErrorKind
registers_faults m f = concat_map (value_faults m) f.regs ++ unless (leb (length f.regs) most_registers) (OutOfRange Registers (length f.regs))

-- the signature's parameters beside the registers, then beside the parameter list
unfoldable pub params_faults : Module → Func → List LoadErrorKind
params_faults m f = unless (params_first m (sig_params m f.sig) f.regs) ParamMismatch ++ param_list_faults m f.params (sig_params m f.sig)

unfoldable pub head_faults : Module → Func → List LoadErrorKind
head_faults m f = signature_faults m f.sig ++ (registers_faults m f ++ params_faults m f)

-- captures, names, type refs
unfoldable pub tail_faults : Module → Func → List LoadErrorKind
tail_faults m f = concat_map (value_faults m) f.captures ++ (concat_map (string_faults m) f.names ++ concat_map (type_ref_faults m) f.type_refs)

unfoldable pub lists_faults : Module → Func → List LoadErrorKind
lists_faults m f = concat_map (shape_faults m) f.shapes ++ tail_faults m f
