-- How long the records of the linked table are.
use Rattle.std.specs.Prelude.{ℕ, suc, ◌+◌, ◌*◌, ◌≤◌, min, ◌≡◌, List, [], ◌∷◌, ◌++◌, Bool, true, false, cond, eqb, ltb, length, take}
use Rattle.std.specs.Prelude.{None, Some}
use Rattle.std.proofs.Math.Path.{refl}
use mathlib.Core.List
use Rattle.std.proofs.Common.{arith, length-append, length-take}
use Rattle.std.proofs.lemmas.List.{length-map}
use Rattle.lists.specs.Lists.{from, map_from}
use Rattle.lists.specs.ListLaws.{length_concat_map, length_from, length_map_from, places_from_few}
use Rattle.reader.specs.Reader.{encode_list, encode_words}
use Rattle.sheet.specs.Module.{ValueType, is_reference, Field, Method, Struct, TypeDef, func, struct, cell, iter, coroutine, ParamList, Inst, Func, Module}
use Rattle.sheet.specs.Encode.{encode_value, encode_field, encode_method, encode_struct, encode_body, encode_type, encode_pair, encode_params, encode_arg, encode_handler, encode_switch, encode_inst, encode_func}
use Rattle.canon.specs.Canon.{canon_string, canon_type, canon_word}
use Rattle.types.specs.Types.{named_slots}
use Rattle.imports.specs.Params.{sig_results}
use Rattle.table.specs.Records.{put, by_name, last_slot, references, canon_words, field_names, method_names, struct_record, type_body, type_record, few_handlers, catcher, catch_table, result_word, func_record}

-- ── lists ──

put_few : (p : ℕ × ℕ) (ps : List (ℕ × ℕ)) → length (put p ps) ≤ suc (length ps)
unfolding put
put_few p [] = omega arith
put_few p (q ∷ qs) = go (ltb p.0 q.0) (eqb p.0 q.0) (put p qs) (put_few p qs)
  where
    go : (a b : Bool) (r : List (ℕ × ℕ)) → length r ≤ suc (length qs) → length (cond a (p ∷ q ∷ qs) (cond b (p ∷ qs) (q ∷ r))) ≤ suc (suc (length qs))
    go true b r h = omega arith
    go false true r h = omega arith
    go false false r h = omega arith

pub by_name_few : (ps : List (ℕ × ℕ)) → length (by_name ps) ≤ length ps
unfolding by_name
by_name_few [] = omega arith
by_name_few (p ∷ ps) = omega (arith, put_few p (by_name ps), by_name_few ps)

pub references_few : (vs : List ValueType) → length (references vs) ≤ length vs
unfolding references
references_few vs = places_from_few is_reference 0 vs

pub canon_words_length : (m : Module) (vs : List ValueType) → length (canon_words m vs) ≡ 1 + length vs
unfolding canon_words
canon_words_length m vs = omega (arith, length-map vs (canon_word m.types))

pub pairs_length : (ps : List (ℕ × ℕ)) → length (encode_list encode_pair ps) ≡ 1 + 2 * length ps
pairs_length ps = omega (arith, length_concat_map encode_pair 2 two ps)
  where
    two : (p : ℕ × ℕ) → length (encode_pair p) ≡ 2
    two p = unfold encode_pair in refl

pub field_names_few : (m : Module) (s : Struct) → length (field_names m s) ≤ length s.fields
unfolding field_names
field_names_few m s =
    let fs = take named_slots s.fields in
    let name : ℕ → Field → ℕ × ℕ = λ slot f. (canon_string m.strings f.name, slot) in
    omega (arith, by_name_few (map_from 0 name fs), length_map_from name 0 fs, length-take named_slots s.fields)

pub method_names_few : (m : Module) (s : Struct) → length (method_names m s) ≤ length s.methods
unfolding method_names
method_names_few m s =
    let name : Method → ℕ × ℕ = λ x. (canon_string m.strings x.name, x.func) in
    omega (arith, by_name_few (List.map name s.methods), length-map s.methods name)

-- ── types ──

pub struct_few : (m : Module) (s : Struct) → length (struct_record m s) ≤ 5 + 4 * length s.fields + 2 * length s.methods
unfolding struct_record
struct_few m s =
    let vs = List.map (λ f. f.type) s.fields in
    let a = canon_words m vs in
    let b = encode_words (List.map (min last_slot) (references vs)) in
    let c = encode_list encode_pair (field_names m s) in
    let d = encode_list encode_pair (method_names m s) in
    omega (
      arith,
      length-append (a ++ b ++ c) d,
      length-append (a ++ b) c,
      length-append a b,
      canon_words_length m vs,
      length-map s.fields (λ f. f.type),
      length-map (references vs) (min last_slot),
      references_few vs,
      pairs_length (field_names m s),
      pairs_length (method_names m s),
      field_names_few m s,
      method_names_few m s,
    )

struct_words : (s : Struct) → length (encode_struct s) ≡ 4 + 2 * length s.fields + 2 * length s.methods
unfolding encode_struct
struct_words s =
    omega (arith, length-append (encode_list encode_field s.fields) (encode_list encode_method s.methods), length_concat_map encode_field 2 fields s.fields, length_concat_map encode_method 2 methods s.methods)
  where
    fields : (f : Field) → length (encode_field f) ≡ 2
    fields f = unfold encode_field encode_value in refl

    methods : (x : Method) → length (encode_method x) ≡ 2
    methods x = unfold encode_method in refl

pub type_few : (m : Module) (d : TypeDef) → length (type_record m d) + 4 ≤ 5 * length (encode_type d)
unfolding type_record type_body encode_type encode_body encode_value
type_few m (func s) = omega arith
type_few m (struct s) = omega (arith, struct_few m s, struct_words s)
type_few m (TypeDef.array v) = omega arith
type_few m (TypeDef.map k v) = omega arith
type_few m (cell v) = omega arith
type_few m (iter k v) = omega arith
type_few m coroutine = omega arith

-- ── functions ──

pub catch_few : (f : Func) → length (catch_table f) ≤ 2 + length f.code
unfolding catch_table
catch_few f = go (ltb few_handlers (length f.handlers)) (omega (arith, length-map (from 0 (length f.code)) (catcher f.handlers), length_from 0 (length f.code)))
  where
    go : (b : Bool) → length (List.map (catcher f.handlers) (from 0 (length f.code))) ≡ length f.code
        → length (cond b (1 ∷ encode_words (List.map (catcher f.handlers) (from 0 (length f.code)))) (0 ∷ [])) ≤ 2 + length f.code
    go true h = omega arith
    go false h = omega arith

pub func_record_few : (m : Module) (f : Func)
    → length (func_record m f) ≤ 11 + 2 * length f.regs + length f.captures + length f.names + length f.type_refs + length f.code
unfolding func_record
func_record_few m f =
    let a = canon_words m f.regs in
    let b = result_word m (sig_results m f.sig) ∷ [] in
    let c = encode_words (references f.regs) in
    let d = canon_words m f.captures in
    let e = encode_words (List.map (canon_string m.strings) f.names) in
    let g = encode_words (List.map (canon_type m.types) f.type_refs) in
    let h = catch_table f in
    omega (
      arith,
      length-append (a ++ b ++ c ++ d ++ e ++ g) h,
      length-append (a ++ b ++ c ++ d ++ e) g,
      length-append (a ++ b ++ c ++ d) e,
      length-append (a ++ b ++ c) d,
      length-append (a ++ b) c,
      length-append a b,
      canon_words_length m f.regs,
      references_few f.regs,
      canon_words_length m f.captures,
      length-map f.names (canon_string m.strings),
      length-map f.type_refs (canon_type m.types),
      catch_few f,
    )

values_length : (vs : List ValueType) → length (encode_list encode_value vs) ≡ 1 + length vs
values_length vs = omega (arith, length_concat_map encode_value 1 one vs)
  where
    one : (v : ValueType) → length (encode_value v) ≡ 1
    one v = unfold encode_value in refl

params_length : (ps : ParamList) → 1 ≤ length (encode_params ps)
unfolding encode_params
params_length None = omega arith
params_length (Some ps) = omega arith

insts_length : (is : List Inst) → length (encode_list encode_inst is) ≡ 1 + 2 * length is
insts_length is = omega (arith, length_concat_map encode_inst 2 two is)
  where
    two : (i : Inst) → length (encode_inst i) ≡ 2
    two i = unfold encode_inst in refl

pub func_words_lem : (f : Func) → 10 + length f.regs + length f.captures + length f.names + length f.type_refs + 2 * length f.code ≤ length (encode_func f)
unfolding encode_func
func_words_lem f =
    let a = encode_list encode_value f.regs in
    let b = encode_params f.params in
    let c = encode_list (encode_list encode_arg) f.shapes in
    let d = encode_list encode_value f.captures in
    let e = encode_words f.names in
    let g = encode_words f.type_refs in
    let h = encode_list encode_handler f.handlers in
    let i = encode_list encode_switch f.tables in
    let j = encode_list encode_inst f.code in
    omega (
      arith,
      length-append (a ++ b ++ c ++ d ++ e ++ g ++ h ++ i) j,
      length-append (a ++ b ++ c ++ d ++ e ++ g ++ h) i,
      length-append (a ++ b ++ c ++ d ++ e ++ g) h,
      length-append (a ++ b ++ c ++ d ++ e) g,
      length-append (a ++ b ++ c ++ d) e,
      length-append (a ++ b ++ c) d,
      length-append (a ++ b) c,
      length-append a b,
      values_length f.regs,
      params_length f.params,
      values_length f.captures,
      insts_length f.code,
    )

pub func_few : (m : Module) (f : Func) → length (func_record m f) + 0 ≤ 4 * length (encode_func f)
func_few m f = omega (arith, func_record_few m f, func_words_lem f)
