-- How long the linked table is, L + 6 ≤ 5 N, and where its spans stand.
use Rattle.std.specs.Prelude.{ℕ, suc, ◌+◌, ◌*◌, ◌≤◌, ◌<◌, ◌≡◌, List, [], ◌∷◌, ◌++◌, Bool, true, false, length, get_or}
use Rattle.std.proofs.Math.Path.{refl}
use Rattle.std.proofs.Common.{ap, ◌∙◌, arith, length-append}
use Rattle.std.proofs.lemmas.List.{length-map}
use Rattle.lists.specs.Lists.{concat_map, from}
use Rattle.lists.specs.ListLaws.{length_concat_map, length_concat_map_from, get_d_concat_map_from, concat_map_bound, length_from, places_from_few}
use Rattle.reader.specs.Reader.{encode_list}
use Rattle.sheet.specs.Module.{is_reference, TypeDef, coroutine, Import, Global, Module, type_at, is_struct}
use Rattle.sheet.specs.Encode.{encode_type, encode_const, encode_import, encode_global, encode_func, encode_hook, encode_export, encode}
use Rattle.sheet.proofs.SheetLaws.{sheet_words}
use Rattle.reader.specs.Text.{encode_string}
use Rattle.host.specs.Host.{HostFn}
use Rattle.canon.specs.Canon.{canon_type, canon_word}
use Rattle.spans.specs.Spans.{span_of, spans}
use Rattle.table.specs.Records.{type_record, func_record, import_record}
use Rattle.table.specs.Table.{header_words, hook_section, canon_section, global_section, reference_section, span_section, sections, starts_from, joined, table_words}
use Rattle.table.proofs.RecordLaws.{type_few, func_few}

import_few : (hosts : List HostFn) (m : Module) (i : Import) → length (import_record hosts m i) + 0 ≤ 4 * length (encode_import i)
unfolding import_record encode_import
import_few hosts m i = omega arith

pub span_three : (most : ℕ) (types : List TypeDef) (t : ℕ) (b : Bool) → length (span_of most types t b) ≡ 3
unfolding span_of
span_three most types t true = refl
span_three most types t false = refl

pub spans_length : (most : ℕ) (types : List TypeDef) → length (spans most types) ≡ 3 * length types
unfolding spans
spans_length most types =
    length_concat_map_from (λ t d. span_of most types t (is_struct d)) 3 (λ t d. span_three most types t (is_struct d)) 0 types

-- word j of the span of type t
pub span_at : (most : ℕ) (types : List TypeDef) (t j : ℕ) → t < length types → j < 3 →
    get_or (spans most types) (3 * t + j) 0 ≡ get_or (span_of most types t (is_struct (type_at types t))) j 0
unfolding spans type_at
span_at most types t j h l =
    let e : 0 + t ≡ t = omega arith in
    get_d_concat_map_from (λ t d. span_of most types t (is_struct d)) 3 (λ t d. span_three most types t (is_struct d)) 0 types t j coroutine 0 h l
    ∙ ap (λ n. get_or (span_of most types n (is_struct (type_at types t))) j 0) e

pub starts_length : (n : ℕ) (ss : List (List ℕ)) → length (starts_from n ss) ≡ length ss
unfolding starts_from
starts_length n [] = refl
starts_length n (s ∷ ss) = ap suc (starts_length (n + length s) ss)

abbrev total : List (List ℕ) → ℕ
total [] = 0
total (s ∷ ss) = length s + total ss

total_length : (ss : List (List ℕ)) → length (concat_map (λ s. s) ss) ≡ total ss
total_length [] = refl
total_length (s ∷ ss) = omega (arith, length-append s (concat_map (λ s. s) ss), total_length ss)

joined_length : (ss : List (List ℕ)) → length (joined ss) ≡ 2 + length ss + total ss
unfolding joined
joined_length ss = omega (arith, length-append (starts_from header_words ss) (concat_map (λ s. s) ss), starts_length header_words ss, total_length ss)

hooks_length : (m : Module) → length (hook_section m) ≡ 32
unfolding hook_section
hooks_length m = refl

canons_length : (m : Module) → length (canon_section m) ≡ 1 + length m.types
unfolding canon_section
canons_length m = omega (arith, length-map (from 0 (length m.types)) (canon_type m.types), length_from 0 (length m.types))

globals_length : (m : Module) → length (global_section m) ≡ 1 + length m.globals
unfolding global_section
globals_length m = let word : Global → ℕ = λ g. canon_word m.types g.type in omega (arith, length-map m.globals word)

references_length : (m : Module) → length (reference_section m) ≤ 1 + length m.globals
unfolding reference_section
references_length m = let test : Global → Bool = λ g. is_reference g.type in omega (arith, places_from_few test 0 m.globals)

pub span_section_length : (most : ℕ) (m : Module) → length (span_section most m) ≡ 1 + 3 * length m.types
unfolding span_section
span_section_length most m = omega (arith, spans_length most m.types)

pub table_length_lem : (most : ℕ) (hosts : List HostFn) (m : Module)
    → length (table_words most hosts m)
    ≤ 49
    + length (concat_map (func_record m) m.funcs)
    + length (concat_map (type_record m) m.types)
    + length (concat_map (import_record hosts m) m.imports)
    + 4 * length m.types
    + 2 * length m.globals
unfolding table_words sections
table_length_lem most hosts m =
    omega (
      arith,
      joined_length (sections most hosts m),
      hooks_length m,
      canons_length m,
      globals_length m,
      references_length m,
      span_section_length most m,
    )

encode_length : (m : Module)
    → 9
    + length (concat_map encode_type m.types)
    + length (concat_map encode_import m.imports)
    + 2 * length m.globals
    + length (concat_map encode_func m.funcs)
    ≤ length (encode m)
unfolding encode
encode_length m =
    let a = encode_list encode_string m.strings in
    let b = encode_list encode_type m.types in
    let c = encode_list encode_const m.consts in
    let d = encode_list encode_import m.imports in
    let e = encode_list encode_global m.globals in
    let f = encode_list encode_func m.funcs in
    let g = encode_list encode_hook m.hooks in
    let h = m.start+ ∷ encode_list encode_export m.exports in
    omega (
      arith,
      length-append (a ++ b ++ c ++ d ++ e ++ f ++ g) h,
      length-append (a ++ b ++ c ++ d ++ e ++ f) g,
      length-append (a ++ b ++ c ++ d ++ e) f,
      length-append (a ++ b ++ c ++ d) e,
      length-append (a ++ b ++ c) d,
      length-append (a ++ b) c,
      length-append a b,
      length_concat_map encode_global 2 two m.globals,
    )
  where
    two : (g : Global) → length (encode_global g) ≡ 2
    two g = unfold encode_global in refl

pub table_few : (most : ℕ) (hosts : List HostFn) (m : Module) → length (table_words most hosts m) + 6 ≤ 5 * sheet_words m
table_few most hosts m =
    omega (
      arith,
      table_length_lem most hosts m,
      encode_length m,
      concat_map_bound (func_record m) encode_func 0 4 (func_few m) m.funcs,
      concat_map_bound (type_record m) encode_type 4 5 (type_few m) m.types,
      concat_map_bound (import_record hosts m) encode_import 0 4 (import_few hosts m) m.imports,
    )

pub table_fits : (most : ℕ) (hosts : List HostFn) (m : Module) → length (table_words most hosts m) ≤ 64 + 8 * sheet_words m
table_fits most hosts m = omega (arith, table_few most hosts m)
