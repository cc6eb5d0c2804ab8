-- Lists of members of two words each, as code reads them: fields, methods.
use Prim.Native.Nat.{ℕ, suc, ◌+◌, ◌*◌, ◌≤◌, ◌<◌, min}
use mathlib.Core.Path.{◌≡◌, refl, sym, ap, subst, ◌∙◌}
use mathlib.Core.List.{List, [], ◌∷◌}
use mathlib.Core.Bool.{Bool}
use native.Mathlib.Omega.{arith}
use lib.ListN.{length, get_or, take, length-take}
use lib.Seq.{get_or-take}
use Rattle.lists.specs.Lists.{concat_map}
use Rattle.lists.specs.ListLaws.{length_concat_map, get_d_concat_map}
use Rattle.blocks.specs.Blocks.{words}
use Rattle.blocks.specs.Frame.{first_words}
use Rattle.blocks.proofs.FirstWords.{length_first_words, first_words_at}
use Rattle.error.specs.declared.What.TheVariants.{Strings}
use Rattle.law_faults.specs.Empty.{append_empty, range_empty, every}
use Rattle.reader.specs.Reader.{Reader, list_of}
use Rattle.reader.specs.ReaderLaws.{Stands, stands_in, stands_at, Codes, list_codes}
use Rattle.reader.specs.Value.{Whole, value_of}
use Rattle.reader.specs.ValueLaws.{whole_inv, value_got}
use Rattle.sheet.specs.Module.{dyn, Field, Method, Module}
use Rattle.sheet.specs.Decode.{field_of, method_of}
use Rattle.sheet.specs.Encode.{encode_value, encode_field, encode_method}
use Rattle.sheet.specs.Coded.{coded_field}
use Rattle.sheet.proofs.TypeCodes.{field_codes, method_codes}
use Rattle.types.specs.Types.{named_slots, string_faults, function_faults, method_faults}
use Rattle.table_names.specs.Names.{named_fields, name_faults, methods_faults}

-- the members of a list and its words
pub record Twos {A : Type 0} (enc : A → List ℕ) (b : List ℕ) (n at : ℕ) (xs : List A) : Type 0 where
  pub count : get_or (words b) at 0 ≡ length xs
  pub fit : at + 1 + 2 * length xs ≤ n
  pub member : (d : A) (i j : ℕ) → i < length xs → j < 2 → get_or (words b) (at + 1 + (2 * i + j)) 0 ≡ get_or (enc (get_or xs i d)) j 0

module _ {A : Type 0} (f : Reader A) (enc : A → List ℕ) (ok : A → Bool) (codes : (ws : List ℕ) → Codes ws f enc ok) (two : (a : A) → length (enc a) ≡ 2) where
  stood : (b : List ℕ) (n at q : ℕ) (xs : List A) → Stands (first_words b n) at (length xs ∷ concat_map enc xs) q → Twos enc b n at xs
  stood b n at q xs s =
      let l : length (concat_map enc xs) ≡ 2 * length xs = length_concat_map enc 2 two xs in
      let m : at + 1 + 2 * length xs ≤ n = omega (arith, stands_in (first_words b n) s, s.end, length_first_words b n) in
      let z : at ≡ at + 0 = omega arith in record {
        count = sym (first_words_at b n at (omega arith)) ∙ ap (λ k. get_or (first_words b n) k 0) z ∙ stands_at (first_words b n) s 0 (omega arith);
        fit = m;
        member = λ d i j h k.
            let e : at + 1 + (2 * i + j) ≡ at + suc (2 * i + j) = omega arith in
            sym (first_words_at b n (at + 1 + (2 * i + j)) (omega arith))
            ∙ ap (λ k. get_or (first_words b n) k 0) e
            ∙ stands_at (first_words b n) s (suc (2 * i + j)) (omega arith)
            ∙ get_d_concat_map enc 2 two xs i j d 0 h k;
      }

  twos : (b : List ℕ) (n at : ℕ) → Whole (list_of f (first_words b n) at) → Twos enc b n at (value_of [] (list_of f (first_words b n) at))
  twos b n at h = whole_inv (list_of f (first_words b n) at) h λ xs q e.
      subst (Twos enc b n at) (sym (value_got [] e)) (stood b n at q xs ((list_codes (first_words b n) f enc ok (codes (first_words b n))).found at xs q e).stands)

abbrev pub no_field : Field
no_field = record { name = 0; type = dyn }

abbrev pub no_method : Method
no_method = record { name = 0; func = 0 }

module _ (b : List ℕ) (n at : ℕ) where
  pub fields_stand : Whole (list_of field_of (first_words b n) at) → Twos encode_field b n at (value_of [] (list_of field_of (first_words b n) at))
  unfolding encode_field encode_value
  fields_stand h = twos field_of encode_field coded_field field_codes (λ a. refl) b n at h

  pub methods_stand : Whole (list_of method_of (first_words b n) at) → Twos encode_method b n at (value_of [] (list_of method_of (first_words b n) at))
  unfolding encode_method
  methods_stand h = twos method_of encode_method (λ a. Bool.true) method_codes (λ a. refl) b n at h

-- ── the fields that have a name ──

named_is : (fs : List Field) → named_fields fs ≡ take named_slots fs
unfolding named_fields
named_is fs = refl

pub named_length : (fs : List Field) → length (named_fields fs) ≡ min named_slots (length fs)
named_length fs = ap length (named_is fs) ∙ length-take named_slots fs

named_at : (fs : List Field) (i : ℕ) → i < length (named_fields fs) → get_or (named_fields fs) i no_field ≡ get_or fs i no_field
named_at fs i h = ap (λ l. get_or l i no_field) (named_is fs) ∙ get_or-take named_slots fs i no_field (omega (arith, named_length fs))

-- the name of field i, as read, is that of a string
module _ (b : List ℕ) (n at : ℕ) (fs : List Field) (s : Twos encode_field b n at fs) (i : ℕ) (h : i < length (named_fields fs)) where
  pub field_word : get_or (words b) (at + 1 + 2 * i) 0 ≡ (get_or (named_fields fs) i no_field).name
  unfolding encode_field
  field_word =
      let e : at + 1 + 2 * i ≡ at + 1 + (2 * i + 0) = omega arith in
      ap (λ k. get_or (words b) k 0) e
      ∙ s.member no_field i 0 (omega (arith, named_length fs)) (omega arith)
      ∙ ap (λ (f : Field). f.name) (sym (named_at fs i h))

  pub field_in : (m : Module) → name_faults m fs ≡ [] → get_or (words b) (at + 1 + 2 * i) 0 < length m.strings
  unfolding name_faults string_faults
  field_in m e =
      let z : (get_or (named_fields fs) i no_field).name < length m.strings = (range_empty Strings (length m.strings) (get_or (named_fields fs) i no_field).name).0 ((every no_field (λ f. string_faults m f.name) (named_fields fs)).0 e i h) in
      omega (arith, field_word)

-- and the name and the function of method i
module _ (b : List ℕ) (n at : ℕ) (ms : List Method) (s : Twos encode_method b n at ms) (i : ℕ) (h : i < length ms) where
  pub method_word : get_or (words b) (at + 1 + 2 * i) 0 ≡ (get_or ms i no_method).name
  unfolding encode_method
  method_word = let e : at + 1 + 2 * i ≡ at + 1 + (2 * i + 0) = omega arith in ap (λ k. get_or (words b) k 0) e ∙ s.member no_method i 0 h (omega arith)

  pub method_func : get_or (words b) (at + 1 + 2 * i + 1) 0 ≡ (get_or ms i no_method).func
  unfolding encode_method
  method_func = let e : at + 1 + 2 * i + 1 ≡ at + 1 + (2 * i + 1) = omega arith in ap (λ k. get_or (words b) k 0) e ∙ s.member no_method i 1 h (omega arith)

  pub method_in : (m : Module) → methods_faults m ms ≡ [] → get_or (words b) (at + 1 + 2 * i) 0 < length m.strings
  unfolding methods_faults method_faults string_faults
  method_in m e =
      let y : method_faults m (get_or ms i no_method) ≡ [] = (every no_method (method_faults m) ms).0 e i h in
      let z : (get_or ms i no_method).name < length m.strings = (range_empty Strings (length m.strings) (get_or ms i no_method).name).0
      ((append_empty (function_faults m (get_or ms i no_method).func) (string_faults m (get_or ms i no_method).name)).0 y).1 in
      omega (arith, method_word)
