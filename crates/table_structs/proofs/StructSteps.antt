-- A struct: its parts where code finds them, and its record from theirs.
use Prim.Native.Nat.{ℕ, ◌+◌, ◌*◌, ◌≤◌, ◌<◌, min}
use mathlib.Core.Path.{◌≡◌, refl, sym, ap, ap₂, subst, ◌∙◌}
use mathlib.Core.List.{List, [], ◌∷◌, ◌++◌, append_assoc}
use mathlib.Core.List
use native.Mathlib.Omega.{arith}
use lib.ListN.{length, get_or, take, length-map}
use Rattle.lists.specs.Lists.{concat_map}
use Rattle.lists.specs.ListLaws.{length_concat_map}
use Rattle.blocks.specs.Blocks.{words}
use Rattle.blocks.specs.Frame.{first_words}
use Rattle.blocks.proofs.FirstWords.{first_words_at}
use Rattle.error.specs.declared.LoadErrorKind.{LoadErrorKind}
use Rattle.law_faults.specs.Empty.{append_empty}
use Rattle.reader.specs.Reader.{got, word, list_of, encode_list, encode_words}
use Rattle.reader.specs.ReaderLaws.{Stands, stands_at, then_inv, word_codes, list_codes}
use Rattle.reader.specs.StepLaws.{word_read}
use Rattle.reader.specs.Value.{Whole, value_of}
use Rattle.reader.specs.ValueLaws.{whole_inv, got_whole, value_got, list_within}
use Rattle.sheet.specs.Module.{Field, Struct, struct, coroutine, Module}
use Rattle.sheet.specs.Decode.{field_of, method_of, struct_type}
use Rattle.sheet.specs.Encode.{encode_value, encode_field, encode_pair}
use Rattle.sheet.specs.Coded.{coded_field}
use Rattle.sheet.proofs.TypeCodes.{field_codes}
use Rattle.canon.specs.Canon.{canon_word}
use Rattle.types.specs.Types.{named_slots, value_faults, string_faults, method_faults, struct_faults, type_faults}
use Rattle.open_layout.specs.Opened.{module_in}
use Rattle.table.specs.Records.{last_slot, references, canon_words, field_names, method_names, struct_record}
use Rattle.table_values.specs.Values.{values_at, Values, Present}
use Rattle.table_values.specs.ValuesLaws.{values_length, values_present, values_fields, fields_values}
use Rattle.table_names.specs.Names.{named_fields, field_list, method_list, name_faults, methods_faults, field_names_lem, method_names_lem}
use Rattle.table_structs.specs.StructParts.{Sound, struct_in, struct_at, field_words, name_words}
use Rattle.table_structs.proofs.Joins.{Put, front_room, put_is, put_room, put_then}

-- ── where its parts stand ──

pub record Stood (b : List ℕ) (n at : ℕ) (s : Struct) : Type 0 where
  pub parent : get_or (words b) (at + 1) 0 ≡ s.parent+
  pub count : get_or (words b) (at + 2) 0 ≡ length s.fields
  pub inside : at + 2 + 1 + 2 * length s.fields < n
  pub fields_read : Whole (list_of field_of (first_words b n) (at + 2))
  pub fields : value_of [] (list_of field_of (first_words b n) (at + 2)) ≡ s.fields
  pub methods_read : Whole (list_of method_of (first_words b n) (at + 2 + 1 + 2 * length s.fields))
  pub methods : value_of [] (list_of method_of (first_words b n) (at + 2 + 1 + 2 * length s.fields)) ≡ s.methods
  pub clear : struct_faults (module_in (first_words b n)) s ≡ []

-- the count of a list of fields, and where it ends
fields_end : (b : List ℕ) (n at : ℕ) (fs : List Field) (q : ℕ) → list_of field_of (first_words b n) at ≡ got fs q → (get_or (words b) at 0 ≡ length fs) × (q ≡ at + 1 + 2 * length fs)
unfolding encode_field encode_value
fields_end b n at fs q e =
    let s : Stands (first_words b n) at (length fs ∷ concat_map encode_field fs) q = ((list_codes (first_words b n) field_of encode_field coded_field (field_codes (first_words b n))).found at fs q e).stands in
    let z : at ≡ at + 0 = omega arith in (
      sym (first_words_at b n at (list_within field_of b n at (got_whole e))) ∙ ap (λ k. get_or (first_words b n) k 0) z ∙ stands_at (first_words b n) s 0 (omega arith),
      omega (arith, s.end, length_concat_map encode_field 2 (λ f. refl) fs),
    )

module _ (b : List ℕ) (n at : ℕ) (x : Sound struct_type coroutine type_faults (first_words b n) at) where
  struct_inv : {C : Type 0} → ((s : Struct) (q e : ℕ) → at + 1 < n → word (first_words b n) (at + 1) ≡ got s.parent+ (at + 2) → list_of field_of (first_words b n) (at + 2) ≡ got s.fields q
      → list_of method_of (first_words b n) q ≡ got s.methods e → value_of coroutine (struct_type (first_words b n) at) ≡ struct s → C) → C
  unfolding struct_type
  struct_inv k = whole_inv (struct_type (first_words b n) at) x.whole λ v e g.
      then_inv (word (first_words b n) at) _ g λ a p₁ e₁ g₁.
      then_inv (word (first_words b n) p₁) _ g₁ λ p p₂ e₂ g₂.
      then_inv (list_of field_of (first_words b n) p₂) _ g₂ λ fs p₃ e₃ g₃.
      then_inv (list_of method_of (first_words b n) p₃) _ g₃ λ ms p₄ e₄ g₄.
      let z₁ : p₁ ≡ at + 1 = ((word_codes (first_words b n)).found at a p₁ e₁).stands.end in
      let z₂ : p₂ ≡ at + 2 = omega (arith, ((word_codes (first_words b n)).found p₁ p p₂ e₂).stands.end) in
      k (record { name = a; parent+ = p; fields = fs; methods = ms }) p₃ p₄ (omega (arith, list_within field_of b n p₂ (got_whole e₃)))
      (ap (word (first_words b n)) (sym z₁) ∙ e₂ ∙ ap (got p) z₂) (ap (list_of field_of (first_words b n)) (sym z₂) ∙ e₃) e₄ (value_got coroutine (g ∙ sym g₄))

  struct_stood : Stood b n at (struct_at (first_words b n) at)
  unfolding struct_at struct_in type_faults
  struct_stood = struct_inv λ s q e l e₁ e₂ e₃ e₄.
      let f = fields_end b n (at + 2) s.fields q e₂ in
      let z : q ≡ at + 2 + 1 + 2 * length s.fields = f.1 in
      let m : list_of method_of (first_words b n) (at + 2 + 1 + 2 * length s.fields) ≡ got s.methods e = ap (list_of method_of (first_words b n)) (sym z) ∙ e₃ in
      subst (Stood b n at) (sym (ap struct_in e₄))
      (record {
        parent = sym (value_got 0 (word_read b n (at + 1) l refl)) ∙ value_got 0 e₁;
        count = f.0;
        inside = list_within method_of b n (at + 2 + 1 + 2 * length s.fields) (got_whole m);
        fields_read = got_whole e₂;
        fields = value_got [] e₂;
        methods_read = got_whole m;
        methods = value_got [] m;
        clear = ap (type_faults (module_in (first_words b n))) (sym e₄) ∙ x.holds;
      })

-- ── what rule 2 says of them ──

module _ (m : Module) (s : Struct) (e : struct_faults m s ≡ []) where
  abbrev types : List LoadErrorKind
  types = concat_map (λ f. value_faults m f.type) s.fields

  abbrev names : List LoadErrorKind
  names = concat_map (λ f. string_faults m f.name) (take named_slots s.fields)

  abbrev methods : List LoadErrorKind
  methods = concat_map (method_faults m) s.methods

  before_name : types ++ names ++ methods ≡ []
  unfolding struct_faults
  before_name = ((append_empty (types ++ names ++ methods) (string_faults m s.name)).0 e).0

  before_methods : types ++ names ≡ []
  before_methods = ((append_empty (types ++ names) methods).0 before_name).0

  types_clear : types ≡ []
  types_clear = ((append_empty types names).0 before_methods).0

  names_clear : name_faults m s.fields ≡ []
  unfolding name_faults named_fields
  names_clear = ((append_empty types names).0 before_methods).1

  methods_clear : methods_faults m s.methods ≡ []
  unfolding methods_faults
  methods_clear = ((append_empty (types ++ names) methods).0 before_name).1

-- ── as code finds them ──

module _ (b : List ℕ) (n at : ℕ) (x : Sound struct_type coroutine type_faults (first_words b n) at) where
  stood : Stood b n at (struct_at (first_words b n) at)
  stood = struct_stood b n at x

  pub struct_in_lem : at + 2 + 1 + 2 * get_or (words b) (at + 2) 0 < n
  struct_in_lem = omega (arith, stood.count, stood.inside)

  pub fields_whole : Whole (list_of field_of (first_words b n) (at + 2))
  fields_whole = stood.fields_read

  pub names_hold : name_faults (module_in (first_words b n)) (value_of [] (list_of field_of (first_words b n) (at + 2))) ≡ []
  names_hold =
      ap (name_faults (module_in (first_words b n))) stood.fields
      ∙ names_clear (module_in (first_words b n)) (struct_at (first_words b n) at) stood.clear

  module _ {w : ℕ} (i : w ≡ get_or (words b) (at + 2) 0) where
    count_is : w ≡ length (struct_at (first_words b n) at).fields
    count_is = i ∙ stood.count

    counted : w ≡ length (value_of [] (list_of field_of (first_words b n) (at + 2)))
    counted = count_is ∙ ap length (sym stood.fields)

    pub methods_whole : Whole (list_of method_of (first_words b n) (at + 2 + 1 + 2 * w))
    methods_whole = subst (λ k. Whole (list_of method_of (first_words b n) (at + 2 + 1 + 2 * k))) (sym count_is) stood.methods_read

    methods_are : value_of [] (list_of method_of (first_words b n) (at + 2 + 1 + 2 * w)) ≡ (struct_at (first_words b n) at).methods
    methods_are = ap (λ k. value_of [] (list_of method_of (first_words b n) (at + 2 + 1 + 2 * k))) count_is ∙ stood.methods

    pub methods_hold : methods_faults (module_in (first_words b n)) (value_of [] (list_of method_of (first_words b n) (at + 2 + 1 + 2 * w))) ≡ []
    methods_hold =
        ap (methods_faults (module_in (first_words b n))) methods_are
        ∙ methods_clear (module_in (first_words b n)) (struct_at (first_words b n) at) stood.clear

    types_are : values_at (first_words b n) (at + 2 + 2) 2 w ≡ List.map (λ f. f.type) (struct_at (first_words b n) at).fields
    types_are = values_fields (first_words b n) (at + 2) w fields_whole counted ∙ ap (List.map (λ (f : Field). f.type)) stood.fields

    pub field_types : Values (first_words b n) (at + 2 + 2) 2 w
    field_types =
        fields_values (first_words b n) (at + 2) w fields_whole counted
        (ap (concat_map (λ (f : Field). value_faults (module_in (first_words b n)) f.type)) stood.fields
        ∙ types_clear (module_in (first_words b n)) (struct_at (first_words b n) at) stood.clear)

    pub field_present : Present (first_words b n) (at + 2 + 2) 2 w
    field_present = values_present (first_words b n) (at + 2 + 2) 2 w field_types

    -- ── parent + 1, fields, reference fields ──

    abbrev canons : List ℕ
    canons = encode_words (List.map (canon_word (module_in (first_words b n)).types) (values_at (first_words b n) (at + 2 + 2) 2 w))

    abbrev places : List ℕ
    places = encode_words (List.map (min 65535) (references (values_at (first_words b n) (at + 2 + 2) 2 w)))

    module _ {y : ℕ} (j : y ≡ get_or (words b) (at + 1) 0) where
      fields_are : (y ∷ []) ++ (canons ++ places) ≡ field_words (module_in (first_words b n)) (struct_at (first_words b n) at)
      unfolding field_words canon_words
      fields_are =
          ap₂ (λ k vs. k ∷ (encode_words (List.map (canon_word (module_in (first_words b n)).types) vs) ++ encode_words (List.map (min 65535) (references vs))))
          (j ∙ stood.parent) types_are

      module _ (t : List ℕ) (a : ℕ) (h : a + length (field_words (module_in (first_words b n)) (struct_at (first_words b n) at)) ≤ length t) where
        all_room : a + length ((y ∷ []) ++ (canons ++ places)) ≤ length t
        all_room = omega (arith, ap length fields_are)

        pub parent_room : a < length t
        parent_room = omega (arith, front_room (length t) a (y ∷ []) (canons ++ places) all_room)

        module _ (u : List ℕ) (p : ℕ) (f : Put t a (y ∷ []) u p) where
          rest_room : p + length (canons ++ places) ≤ length u
          rest_room = put_room t a (y ∷ []) u p f (canons ++ places) all_room

          pub values_room : p + 1 + w ≤ length u
          values_room =
              omega (
                arith,
                front_room (length u) p canons places rest_room,
                length-map (values_at (first_words b n) (at + 2 + 2) 2 w) (canon_word (module_in (first_words b n)).types),
                values_length (first_words b n) (at + 2 + 2) 2 w,
              )

          module _ (v : List ℕ) (q : ℕ) (g : Put u p canons v q) where
            pub places_room : q + length places ≤ length v
            places_room = put_room u p canons v q g places rest_room

            pub fields_put : (z : List ℕ) (r : ℕ) → Put v q places z r → Put t a (field_words (module_in (first_words b n)) (struct_at (first_words b n) at)) z r
            fields_put z r k =
                put_is t a ((y ∷ []) ++ (canons ++ places)) z r
                (put_then t a (y ∷ []) u p f (canons ++ places) all_room z r (put_then u p canons v q g places rest_room z r k))
                (field_words (module_in (first_words b n)) (struct_at (first_words b n) at)) fields_are

    -- ── field names, methods ──

    abbrev field_pairs : List ℕ
    field_pairs = encode_list encode_pair (field_list (module_in (first_words b n)) (value_of [] (list_of field_of (first_words b n) (at + 2))))

    abbrev method_pairs : List ℕ
    method_pairs = encode_list encode_pair (method_list (module_in (first_words b n)) (value_of [] (list_of method_of (first_words b n) (at + 2 + 1 + 2 * w))))

    names_are : field_pairs ++ method_pairs ≡ name_words (module_in (first_words b n)) (struct_at (first_words b n) at)
    unfolding name_words
    names_are =
        ap₂ (λ x y. encode_list encode_pair x ++ encode_list encode_pair y)
        (ap (field_list (module_in (first_words b n))) stood.fields ∙ sym (field_names_lem (module_in (first_words b n)) (struct_at (first_words b n) at)))
        (ap (method_list (module_in (first_words b n))) methods_are ∙ sym (method_names_lem (module_in (first_words b n)) (struct_at (first_words b n) at)))

    module _ (t : List ℕ) (a : ℕ) (h : a + length (name_words (module_in (first_words b n)) (struct_at (first_words b n) at)) ≤ length t) where
      both_room : a + length (field_pairs ++ method_pairs) ≤ length t
      both_room = omega (arith, ap length names_are)

      pub field_names_room : a + length field_pairs ≤ length t
      field_names_room = front_room (length t) a field_pairs method_pairs both_room

      module _ (u : List ℕ) (p : ℕ) (f : Put t a field_pairs u p) where
        pub method_names_room : p + length method_pairs ≤ length u
        method_names_room = put_room t a field_pairs u p f method_pairs both_room

        pub names_put : (z : List ℕ) (r : ℕ) → Put u p method_pairs z r → Put t a (name_words (module_in (first_words b n)) (struct_at (first_words b n) at)) z r
        names_put z r k =
            put_is t a (field_pairs ++ method_pairs) z r (put_then t a field_pairs u p f method_pairs both_room z r k)
            (name_words (module_in (first_words b n)) (struct_at (first_words b n) at)) names_are

-- ── the record ──

struct_words : (m : Module) (s : Struct) → field_words m s ++ name_words m s ≡ struct_record m s
unfolding field_words name_words struct_record
struct_words m s =
    let a = canon_words m (List.map (λ (f : Field). f.type) s.fields) in
    let b = encode_words (List.map (min last_slot) (references (List.map (λ (f : Field). f.type) s.fields))) in
    sym (ap (λ l. s.parent+ ∷ l) (append_assoc (a ++ b) (encode_list encode_pair (field_names m s)) (encode_list encode_pair (method_names m s))))

module _ (m : Module) (s : Struct) (t : List ℕ) (a : ℕ) (h : a + length (struct_record m s) ≤ length t) where
  record_room : a + length (field_words m s ++ name_words m s) ≤ length t
  record_room = omega (arith, ap length (struct_words m s))

  pub fields_room : a + length (field_words m s) ≤ length t
  fields_room = front_room (length t) a (field_words m s) (name_words m s) record_room

  module _ (u : List ℕ) (p : ℕ) (f : Put t a (field_words m s) u p) where
    pub names_room : p + length (name_words m s) ≤ length u
    names_room = put_room t a (field_words m s) u p f (name_words m s) record_room

    pub struct_put : (z : List ℕ) (r : ℕ) → Put u p (name_words m s) z r → Put t a (struct_record m s) z r
    struct_put z r k =
        put_is t a (field_words m s ++ name_words m s) z r (put_then t a (field_words m s) u p f (name_words m s) record_room z r k) (struct_record m s) (struct_words m s)
