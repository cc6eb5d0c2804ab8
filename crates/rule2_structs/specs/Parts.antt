-- Parts of rule 2 on structs, for the functions that judge them.
use Rattle.std.specs.Prelude.{List, ◌++◌, take}
use Rattle.lists.specs.Lists.{concat_map}
use Rattle.error.specs.declared.LoadErrorKind.{LoadErrorKind}
use Rattle.sheet.specs.Module.{dyn, Field, Method, Module}
use Rattle.types.specs.Types.{named_slots, value_faults, string_faults}

unfoldable pub no_field : Field
no_field = record { name = 0; type = dyn }

unfoldable pub no_method : Method
no_method = record { name = 0; func = 0 }

unfoldable pub field_type_faults : Module → Field → List LoadErrorKind
field_type_faults m f = value_faults m f.type

unfoldable pub field_name_faults : Module → Field → List LoadErrorKind
field_name_faults m f = string_faults m f.name

-- the names of the slots that have one
unfoldable pub names_faults : Module → List Field → List LoadErrorKind
names_faults m fs = concat_map (field_name_faults m) (take named_slots fs)

-- field types, then field names
unfoldable pub fields_faults : Module → List Field → List LoadErrorKind
fields_faults m fs = concat_map (field_type_faults m) fs ++ names_faults m fs
