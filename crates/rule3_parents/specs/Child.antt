-- What the code tells of a struct and its declared parent.
use Rattle.std.specs.Prelude.{ℕ, List, Bool, ◌&&◌, leb, length, Option, None, Some}
use Rattle.lists.specs.Lists.{concat_map_from}
use Rattle.error.specs.declared.LoadErrorKind.{LoadErrorKind}
use Rattle.sheet.specs.Module.{Struct, TypeDef, type_at, struct_of, is_struct}
use Rattle.parents.specs.Forest.{entry}
use Rattle.parents.specs.Parents.{field_words, parent_faults}

unfoldable pub parent_of : Option Struct → ℕ
parent_of None = 0
parent_of (Some s) = s.parent+

-- the parent + 1; 0 for none, and of what is no struct
unfoldable pub parent_word : TypeDef → ℕ
parent_word d = parent_of (struct_of d)

-- p is a struct, and has no more fields than t
unfoldable pub extends : List TypeDef → ℕ → ℕ → Bool
extends types p t = is_struct (type_at types p) && leb (length (field_words (struct_of (type_at types p)))) (length (field_words (struct_of (type_at types t))))

-- what is broken in the types, one after the other
unfoldable pub scan_faults : ℕ → List TypeDef → List LoadErrorKind
scan_faults most types = concat_map_from 0 (λ t d. parent_faults most types t (entry d)) types
