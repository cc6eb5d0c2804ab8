-- The names of fields and of methods, as the records of structs have them.
use Rattle.std.specs.Prelude.{ℕ, ◌≡◌, refl, List, take}
use mathlib.Core.List
use Rattle.lists.specs.Lists.{concat_map, map_from}
use Rattle.error.specs.declared.LoadErrorKind.{LoadErrorKind}
use Rattle.reader.specs.Reader.{encode_list}
use Rattle.sheet.specs.Module.{Field, Method, Struct, Module}
use Rattle.sheet.specs.Encode.{encode_pair}
use Rattle.canon.specs.Canon.{canon_string}
use Rattle.types.specs.Types.{named_slots, string_faults, method_faults}
use Rattle.table.specs.Records.{by_name, field_names, method_names}

-- the fields that have a name
unfoldable pub named_fields : List Field → List Field
named_fields fs = take named_slots fs

-- canonical name and slot of each
unfoldable pub slot_pairs : Module → List Field → List (ℕ × ℕ)
slot_pairs m fs = map_from 0 (λ slot f. (canon_string m.strings f.name, slot)) fs

-- canonical name and function of each
unfoldable pub method_pairs : Module → List Method → List (ℕ × ℕ)
method_pairs m ms = List.map (λ x. (canon_string m.strings x.name, x.func)) ms

unfoldable pub field_list : Module → List Field → List (ℕ × ℕ)
field_list m fs = by_name (slot_pairs m (named_fields fs))

unfoldable pub method_list : Module → List Method → List (ℕ × ℕ)
method_list m ms = by_name (method_pairs m ms)

-- the words of a list of pairs
unfoldable pub pair_words : List (ℕ × ℕ) → List ℕ
pair_words ps = encode_list encode_pair ps

-- what rule 2 finds in the names of fields, and in methods
unfoldable pub name_faults : Module → List Field → List LoadErrorKind
name_faults m fs = concat_map (λ f. string_faults m f.name) (named_fields fs)

unfoldable pub methods_faults : Module → List Method → List LoadErrorKind
methods_faults m ms = concat_map (method_faults m) ms

pub field_names_lem : (m : Module) (s : Struct) → field_names m s ≡ field_list m s.fields
unfolding field_names field_list slot_pairs named_fields
field_names_lem m s = refl

pub method_names_lem : (m : Module) (s : Struct) → method_names m s ≡ method_list m s.methods
unfolding method_names method_list method_pairs
method_names_lem m s = refl
