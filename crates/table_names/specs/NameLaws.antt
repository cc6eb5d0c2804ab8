-- A struct that rule 2 holds of has names and methods in range.
use Rattle.std.specs.Prelude.{◌≡◌, List, [], ◌++◌, take}
use Rattle.lists.specs.Lists.{concat_map}
use Rattle.error.specs.declared.LoadErrorKind.{LoadErrorKind}
use Rattle.law_faults.specs.Empty.{append_empty}
use Rattle.sheet.specs.Module.{Struct, Module}
use Rattle.types.specs.Types.{named_slots, value_faults, string_faults, method_faults, struct_faults}
use Rattle.table_names.specs.Names.{named_fields, name_faults, methods_faults}

-- the second and the third of four
middle : (a b c d : List LoadErrorKind) → a ++ b ++ c ++ d ≡ [] → (b ≡ []) × (c ≡ [])
middle a b c d e =
    let p = ((append_empty (a ++ b ++ c) d).0 e).0 in
    let q = (append_empty (a ++ b) c).0 p in
    (((append_empty a b).0 q.0).1, q.1)

pub struct_names : (m : Module) (s : Struct) → struct_faults m s ≡ [] → (name_faults m s.fields ≡ []) × (methods_faults m s.methods ≡ [])
unfolding struct_faults name_faults named_fields methods_faults
struct_names m s e =
    middle
    (concat_map (λ f. value_faults m f.type) s.fields)
    (concat_map (λ f. string_faults m f.name) (take named_slots s.fields))
    (concat_map (method_faults m) s.methods)
    (string_faults m s.name)
    e
