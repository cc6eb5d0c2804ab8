-- Parts of the record of a struct by position, and what is asked of what stands there.
use Rattle.std.specs.Prelude.{ℕ, min, ◌≡◌, List, [], ◌∷◌, ◌++◌}
use mathlib.Core.List
use Rattle.error.specs.declared.LoadErrorKind.{LoadErrorKind}
use Rattle.reader.specs.Reader.{Reader, encode_list, encode_words}
use Rattle.reader.specs.Value.{Whole, value_of}
use Rattle.sheet.specs.Module.{Struct, TypeDef, func, struct, cell, iter, coroutine, Module}
use Rattle.sheet.specs.Decode.{struct_type}
use Rattle.sheet.specs.Encode.{encode_pair}
use Rattle.open_layout.specs.Opened.{module_in}
use Rattle.table.specs.Records.{last_slot, references, canon_words, field_names, method_names}

-- what stands at a position was read, and breaks no rule
pub record Sound {A : Type 0} (f : Reader A) (d : A) (faults : Module → A → List LoadErrorKind) (ws : List ℕ) (at : ℕ) : Type 0 where
  pub whole : Whole (f ws at)
  pub holds : faults (module_in ws) (value_of d (f ws at)) ≡ []

-- ── a struct ──

unfoldable pub no_struct : Struct
no_struct = record { name = 0; parent+ = 0; fields = []; methods = [] }

unfoldable pub struct_in : TypeDef → Struct
struct_in (func s) = no_struct
struct_in (struct s) = s
struct_in (TypeDef.array v) = no_struct
struct_in (TypeDef.map k v) = no_struct
struct_in (cell v) = no_struct
struct_in (iter k v) = no_struct
struct_in coroutine = no_struct

-- the struct whose body stands at a position
unfoldable pub struct_at : List ℕ → ℕ → Struct
struct_at ws at = struct_in (value_of coroutine (struct_type ws at))

-- parent + 1, fields, reference fields
unfoldable pub field_words : Module → Struct → List ℕ
field_words m s =
    s.parent+ ∷
    (canon_words m (List.map (λ f. f.type) s.fields)
    ++ encode_words (List.map (min last_slot) (references (List.map (λ f. f.type) s.fields))))

-- field names, methods
unfoldable pub name_words : Module → Struct → List ℕ
name_words m s = encode_list encode_pair (field_names m s) ++ encode_list encode_pair (method_names m s)
