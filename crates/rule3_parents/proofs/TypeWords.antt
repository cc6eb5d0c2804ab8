-- The words of a type, by their numbers.
use Prim.Native.Nat.{ℕ, suc, ◌+◌, ◌*◌, ◌≤◌, ◌<◌}
use mathlib.Core.Path.{◌≡◌, refl, sym, ap, ◌∙◌}
use mathlib.Core.List.{List, ◌∷◌, ◌++◌}
use mathlib.Core.Bool.{Bool, true, false}
use Rattle.std.specs.Prelude.{None}
use native.Mathlib.Omega.{arith}
use lib.Dec.{eqb}
use lib.ListN.{length, get_or, length-append, get_or-append}
use Rattle.lists.specs.Lists.{concat_map}
use Rattle.lists.specs.ListLaws.{length_concat_map}
use Rattle.blocks.specs.Blocks.{words}
use Rattle.blocks.specs.Frame.{first_words}
use Rattle.reader.specs.Reader.{got, encode_list}
use Rattle.reader.proofs.SizeLaws.{word_within, word_held}
use Rattle.sheet.specs.Module.{Struct, TypeDef, func, struct, cell, iter, coroutine, kind_word, type_at, struct_of, is_struct}
use Rattle.sheet.specs.Decode.{type_def}
use Rattle.sheet.specs.Encode.{encode_value, encode_field, encode_method, encode_struct, encode_body, encode_type}
use Rattle.sheet.specs.Coded.{coded_type}
use Rattle.sheet.proofs.TypeCodes.{type_codes}
use Rattle.sheet.specs.TypeLaws.{type_out, struct_known}
use Rattle.open_layout.specs.Opened.{module_in}
use Rattle.open_sheet.specs.declared.Opened.{Opened}
use Rattle.open_sheet.specs.Ready.{Ready, pos_at}
use Rattle.open_sheet.specs.ReadyLaws.{types_in, entry_ends, count_types}
use Rattle.parents.specs.Parents.{field_words}
use Rattle.rule3_parents.specs.Child.{parent_of, parent_word}

-- ── where a type's words stand ──

module _ (ws w : List ℕ) (o : Opened) (x : Ready ws w o) (t : ℕ) (h : t < o.counts.types) where
  there : type_def ws (pos_at w o.index.types t) ≡ got (type_at (module_in ws).types t) (pos_at w o.index.types (t + 1))
  unfolding type_at
  there = entry_ends type_def ws (module_in ws).types w o.index.types x.types coroutine t (types_in ws w o x t h)

module _ (b : List ℕ) (w : List ℕ) (o : Opened) (x : Ready (first_words b o.layout.words) w o) (t : ℕ) (h : t < o.counts.types) (i : ℕ)
    (l : i < length (encode_type (type_at (module_in (first_words b o.layout.words)).types t))) where
  pub word_small : {p : ℕ} → p ≡ pos_at w o.index.types t → p + i < length w
  word_small e =
      let ws = first_words b o.layout.words in
      omega (arith, e, x.room, word_within type_def encode_type coded_type b o.layout.words (type_codes ws) _ _ _ (there ws w o x t h) i l)

  pub word_is : {p r : ℕ} → p ≡ pos_at w o.index.types t → r ≡ get_or (words b) (p + i) 0 → r ≡ get_or (encode_type (type_at (module_in (first_words b o.layout.words)).types t)) i 0
  word_is {p} {r} e k =
      let ws = first_words b o.layout.words in
      word_held type_def encode_type coded_type b o.layout.words (type_codes ws) _ _ _ (there ws w o x t h) i l (k ∙ ap (λ q. get_or (words b) (q + i) 0) e)

-- ── the kind ──

pub kind_first : (d : TypeDef) → 0 < length (encode_type d)
unfolding encode_type
kind_first d = omega arith

pub kind_test : (d : TypeDef) {r : ℕ} → r ≡ get_or (encode_type d) 0 0 → eqb r 1 ≡ is_struct d
unfolding encode_type is_struct
kind_test d e = ap (λ k. eqb k 1) e

module _ (ws w : List ℕ) (o : Opened) (x : Ready ws w o) (t : ℕ) where
  pub kind_none : o.counts.types ≤ t → false ≡ is_struct (type_at (module_in ws).types t)
  unfolding is_struct kind_word
  kind_none h = sym (ap is_struct (type_out (module_in ws).types t (omega (arith, count_types ws o x.opens))))

  -- a struct is one of the types
  pub struct_in_lem : {r : Bool} → r ≡ true → r ≡ is_struct (type_at (module_in ws).types t) → t < o.counts.types
  struct_in_lem e k = omega (arith, count_types ws o x.opens, struct_known (module_in ws).types t (sym k ∙ e))

-- ── a struct ──

-- a type that is a struct, as one
pub as_struct : {C : Type 0} (d : TypeDef) {r : Bool} → r ≡ true → r ≡ is_struct d → ((s : Struct) → d ≡ struct s → C) → C
unfolding is_struct kind_word
as_struct (func s) e k f = let z : true ≡ false = sym e ∙ k in let y : ◌≡◌ {A = ℕ} 0 1 = cc in absurd (omega arith)
as_struct (struct s) e k f = f s refl
as_struct (TypeDef.array v) e k f = let z : true ≡ false = sym e ∙ k in let y : ◌≡◌ {A = ℕ} 0 1 = cc in absurd (omega arith)
as_struct (TypeDef.map a v) e k f = let z : true ≡ false = sym e ∙ k in let y : ◌≡◌ {A = ℕ} 0 1 = cc in absurd (omega arith)
as_struct (cell v) e k f = let z : true ≡ false = sym e ∙ k in let y : ◌≡◌ {A = ℕ} 0 1 = cc in absurd (omega arith)
as_struct (iter a v) e k f = let z : true ≡ false = sym e ∙ k in let y : ◌≡◌ {A = ℕ} 0 1 = cc in absurd (omega arith)
as_struct coroutine e k f = let z : true ≡ false = sym e ∙ k in let y : ◌≡◌ {A = ℕ} 0 1 = cc in absurd (omega arith)

-- of what is no struct there is none
pub no_struct_lem : (d : TypeDef) {r : Bool} → r ≡ false → r ≡ is_struct d → struct_of d ≡ None
unfolding is_struct kind_word struct_of
no_struct_lem (func s) e k = refl
no_struct_lem (struct s) e k = let z : false ≡ true = sym e ∙ k in let y : ◌≡◌ {A = ℕ} 0 1 = cc in absurd (omega arith)
no_struct_lem (TypeDef.array v) e k = refl
no_struct_lem (TypeDef.map a v) e k = refl
no_struct_lem (cell v) e k = refl
no_struct_lem (iter a v) e k = refl
no_struct_lem coroutine e k = refl

-- the words of a struct: four, and then its fields
method_words : Struct → List ℕ
method_words s = encode_list encode_method s.methods

struct_words : (s : Struct) → encode_type (struct s) ≡ 1 ∷ s.name ∷ s.parent+ ∷ length s.fields ∷ (concat_map encode_field s.fields ++ method_words s)
unfolding encode_type encode_body encode_struct kind_word method_words
struct_words s = refl

fields_length : (s : Struct) → length (concat_map encode_field s.fields) ≡ 2 * length s.fields
fields_length s = length_concat_map encode_field 2 (λ f. unfold encode_field encode_value in refl) s.fields

module _ (d : TypeDef) {r : Bool} (e : r ≡ true) (k : r ≡ is_struct d) where
  pub struct_long : (i : ℕ) → i < 4 → i < length (encode_type d)
  struct_long i h = as_struct d e k λ s z. omega (arith, ap length (ap encode_type z ∙ struct_words s))

  pub parent_read : {v : ℕ} → v ≡ get_or (encode_type d) 2 0 → v ≡ parent_word d
  unfolding parent_word parent_of struct_of
  parent_read g = as_struct d e k λ s z. g ∙ ap (λ l. get_or l 2 0) (ap encode_type z ∙ struct_words s) ∙ sym (ap parent_word z)

  pub count_read : {v : ℕ} → v ≡ get_or (encode_type d) 3 0 → 2 * v ≡ length (field_words (struct_of d))
  unfolding field_words struct_of
  count_read g = as_struct d e k λ s z.
      ap (λ n. 2 * n) (g ∙ ap (λ l. get_or l 3 0) (ap encode_type z ∙ struct_words s)) ∙ sym (fields_length s) ∙ sym (ap (λ x. length (field_words (struct_of x))) z)

module _ (d : TypeDef) {r : Bool} (e : r ≡ false) (k : r ≡ is_struct d) where
  pub parent_none : 0 ≡ parent_word d
  unfolding parent_word parent_of
  parent_none = sym (ap parent_of (no_struct_lem d e k))

  pub count_none : 0 ≡ length (field_words (struct_of d))
  unfolding field_words
  count_none = sym (ap (λ x. length (field_words x)) (no_struct_lem d e k))

-- ── a word of the fields ──

-- what has fields is a struct
has_fields : {C : Type 0} (d : TypeDef) (i : ℕ) → i < length (field_words (struct_of d)) → ((s : Struct) → d ≡ struct s → C) → C
unfolding field_words struct_of
has_fields (func s) i h f = absurd (omega arith)
has_fields (struct s) i h f = f s refl
has_fields (TypeDef.array v) i h f = absurd (omega arith)
has_fields (TypeDef.map a v) i h f = absurd (omega arith)
has_fields (cell v) i h f = absurd (omega arith)
has_fields (iter a v) i h f = absurd (omega arith)
has_fields coroutine i h f = absurd (omega arith)

module _ (d : TypeDef) (i : ℕ) (h : i < length (field_words (struct_of d))) where
  field_struct : is_struct d ≡ true
  unfolding is_struct kind_word
  field_struct = has_fields d i h λ s z. ap is_struct z

  pub field_long : 4 + i < length (encode_type d)
  unfolding field_words struct_of
  field_long = has_fields d i h λ s z.
      omega (arith, ap (λ x. length (field_words (struct_of x))) z, ap length (ap encode_type z ∙ struct_words s), length-append (concat_map encode_field s.fields) (method_words s))

  pub field_read : {v : ℕ} → v ≡ get_or (encode_type d) (4 + i) 0 → v ≡ get_or (field_words (struct_of d)) i 0
  unfolding field_words struct_of
  field_read g = has_fields d i h λ s z.
      let l : i < length (concat_map encode_field s.fields) = omega (arith, ap (λ x. length (field_words (struct_of x))) z) in
      g ∙ ap (λ l. get_or l (4 + i) 0) (ap encode_type z ∙ struct_words s)
      ∙ fourth s.name s.parent+ (length s.fields) (concat_map encode_field s.fields ++ method_words s) i
      ∙ get_or-append (concat_map encode_field s.fields) (method_words s) 0 i l
      ∙ sym (ap (λ x. get_or (field_words (struct_of x)) i 0) z)
    where
      fourth : (a b c : ℕ) (xs : List ℕ) (i : ℕ) → get_or (1 ∷ a ∷ b ∷ c ∷ xs) (4 + i) 0 ≡ get_or xs i 0
      fourth a b c xs i = let z : 4 + i ≡ suc (suc (suc (suc i))) = omega arith in ap (λ k. get_or (1 ∷ a ∷ b ∷ c ∷ xs) k 0) z

module _ (ws w : List ℕ) (o : Opened) (x : Ready ws w o) (t i : ℕ) (h : i < length (field_words (struct_of (type_at (module_in ws).types t)))) where
  pub field_type : t < o.counts.types
  field_type = struct_in_lem ws w o x t refl (sym (field_struct (type_at (module_in ws).types t) i h))

pub field_small : (b w : List ℕ) (o : Opened) → Ready (first_words b o.layout.words) w o → (t i : ℕ) →
    i < length (field_words (struct_of (type_at (module_in (first_words b o.layout.words)).types t))) → 4 + i < length w
field_small b w o x t i h =
    let l = field_long (type_at (module_in (first_words b o.layout.words)).types t) i h in
    let y = word_small b w o x t (field_type (first_words b o.layout.words) w o x t i h) (4 + i) l refl in
    omega (arith, y)
