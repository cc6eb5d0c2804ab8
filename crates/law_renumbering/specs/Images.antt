-- The parts of a type's image.
use Rattle.std.specs.Prelude.{◌≡◌, true, false, ltb, Option, None, Some}
use Rattle.std.proofs.Math.Path.{refl, sym, ap}
use Rattle.std.proofs.Common.{◌∙◌, arith, eqb→eq, ltb-true, ne_eqb}
use mathlib.Core.List.{List, [], ◌∷◌, map}
use Prim.Native.Nat.{ℕ, zero, suc, ◌+◌}
use Rattle.std.proofs.Math.Dec.{eqb}
use Rattle.lists.specs.Lists.{all_of, concat_map, is_front}
use Rattle.lists.specs.ListLaws.{T_true, T_of, and_first, and_second}
use Rattle.lists.specs.AllLaws.{all_map}
use Rattle.law_counting.specs.Counting.{bool_ext, eqb_of}
use Rattle.sheet.specs.Module.{ValueType, basic, ref, first_ref, value_word, is_dyn, Field, Struct, Sig, TypeDef, func, struct, cell, iter, coroutine, kind_word, struct_of, is_struct, is_func, no_sig, sig_of}
use Rattle.sheet.specs.Encode.{encode_field, encode_value}
use Rattle.sheet.specs.Decode.{basic_types}
use Rattle.canon.specs.Canon.{same_type}
use Rattle.canon.proofs.CanonLaws.{same_type_lem, type_same}
use Rattle.parents.specs.Forest.{Entry, other, root, sub, struct_entry, entry_of, entry}
use Rattle.sheet.specs.Coded.{coded_value, coded_field, coded_type}
use Rattle.renumber.specs.Renumber.{image_plus, value_image, field_image, struct_image, sig_image, type_image}

-- ── there and back ──

map_back : {A B : Type 0} (f : A → B) (g : B → A) → ((x : A) → g (f x) ≡ x) → (xs : List A) → map g (map f xs) ≡ xs
map_back f g h [] = refl
map_back f g h (x ∷ xs) = λ i. h x i ∷ map_back f g h xs i

module _ (π ρ : ℕ → ℕ) (back : (t : ℕ) → ρ (π t) ≡ t) where
  plus_back : (t : ℕ) → image_plus ρ (image_plus π t) ≡ t
  unfolding image_plus
  plus_back zero = refl
  plus_back (suc t) = ap suc (back t)

  value_back : (v : ValueType) → value_image ρ (value_image π v) ≡ v
  unfolding value_image
  value_back (basic k) = refl
  value_back (ref t) = ap ref (back t)

  field_back : (f : Field) → field_image ρ (field_image π f) ≡ f
  unfolding field_image
  field_back f = λ i. record { name = f.name; type = value_back f.type i }

  sig_back : (s : Sig) → sig_image ρ (sig_image π s) ≡ s
  unfolding sig_image
  sig_back s = λ i. record {
    params = map_back (value_image π) (value_image ρ) value_back s.params i;
    results = map_back (value_image π) (value_image ρ) value_back s.results i;
  }

  struct_back : (s : Struct) → struct_image ρ (struct_image π s) ≡ s
  unfolding struct_image
  struct_back s = λ i. record {
    name = s.name;
    parent+ = plus_back s.parent+ i;
    fields = map_back (field_image π) (field_image ρ) field_back s.fields i;
    methods = s.methods;
  }

  pub type_back : (d : TypeDef) → type_image ρ (type_image π d) ≡ d
  unfolding type_image
  type_back (func s) = ap func (sig_back s)
  type_back (struct s) = ap struct (struct_back s)
  type_back (TypeDef.array v) = ap TypeDef.array (value_back v)
  type_back (TypeDef.map k v) = λ i. TypeDef.map (value_back k i) (value_back v i)
  type_back (cell v) = ap cell (value_back v)
  type_back (iter k v) = λ i. iter (value_back k i) (value_back v i)
  type_back coroutine = refl

  pub image_inj : (t u : ℕ) → π t ≡ π u → t ≡ u
  image_inj t u e = sym (back t) ∙ ap ρ e ∙ back u

  pub type_inj : (d e : TypeDef) → type_image π d ≡ type_image π e → d ≡ e
  type_inj d e q = sym (type_back d) ∙ ap (type_image ρ) q ∙ type_back e

  pub eqb_image : (t u : ℕ) → eqb (π t) (π u) ≡ eqb t u
  eqb_image t u = bool_ext (eqb (π t) (π u)) (eqb t u)
      (λ h. eqb_of t u (image_inj t u (eqb→eq (π t) (π u) h))) (λ h. eqb_of (π t) (π u) (ap π (eqb→eq t u h)))

-- ── codes ──

module _ (π : ℕ → ℕ) where
  pub good_value : (v : ValueType) → coded_value (value_image π v) ≡ coded_value v
  unfolding value_image coded_value
  good_value (basic k) = refl
  good_value (ref t) = refl

  pub good_values : (vs : List ValueType) → all_of coded_value (map (value_image π) vs) ≡ all_of coded_value vs
  good_values vs = all_map coded_value coded_value (value_image π) good_value vs

  good_fields : (fs : List Field) → all_of coded_field (map (field_image π) fs) ≡ all_of coded_field fs
  unfolding field_image coded_field
  good_fields fs = all_map coded_field coded_field (field_image π) (λ f. good_value f.type) fs

  pub good_type : (d : TypeDef) → coded_type (type_image π d) ≡ coded_type d
  unfolding type_image sig_image struct_image coded_type
  good_type (func s) = rw (good_values s.params, good_values s.results)
  good_type (struct s) = good_fields s.fields
  good_type (TypeDef.array v) = good_value v
  good_type (TypeDef.map k v) = rw (good_value k, good_value v)
  good_type (cell v) = good_value v
  good_type (iter k v) = rw (good_value k, good_value v)
  good_type coroutine = refl

  -- ── parts ──

  pub kind_image : (d : TypeDef) → kind_word (type_image π d) ≡ kind_word d
  unfolding type_image kind_word
  kind_image (func s) = refl
  kind_image (struct s) = refl
  kind_image (TypeDef.array v) = refl
  kind_image (TypeDef.map k v) = refl
  kind_image (cell v) = refl
  kind_image (iter k v) = refl
  kind_image coroutine = refl

  pub is_struct_image : (d : TypeDef) → is_struct (type_image π d) ≡ is_struct d
  unfolding is_struct
  is_struct_image d = ap (λ (k : ℕ). eqb k 1) (kind_image d)

  pub is_func_image : (d : TypeDef) → is_func (type_image π d) ≡ is_func d
  unfolding is_func
  is_func_image d = ap (λ (k : ℕ). eqb k 0) (kind_image d)

  pub sig_image_lem : (d : TypeDef) → sig_of (type_image π d) ≡ sig_image π (sig_of d)
  unfolding type_image sig_of sig_image no_sig
  sig_image_lem (func s) = refl
  sig_image_lem (struct s) = refl
  sig_image_lem (TypeDef.array v) = refl
  sig_image_lem (TypeDef.map k v) = refl
  sig_image_lem (cell v) = refl
  sig_image_lem (iter k v) = refl
  sig_image_lem coroutine = refl

  abbrev pub maybe_struct : Option Struct → Option Struct
  maybe_struct None = None
  maybe_struct (Some s) = Some (struct_image π s)

  pub struct_image_lem : (d : TypeDef) → struct_of (type_image π d) ≡ maybe_struct (struct_of d)
  unfolding type_image struct_of
  struct_image_lem (func s) = refl
  struct_image_lem (struct s) = refl
  struct_image_lem (TypeDef.array v) = refl
  struct_image_lem (TypeDef.map k v) = refl
  struct_image_lem (cell v) = refl
  struct_image_lem (iter k v) = refl
  struct_image_lem coroutine = refl

  abbrev pub rename : Entry → Entry
  rename other = other
  rename root = root
  rename (sub p) = sub (π p)

  entry_plus : (p : ℕ) → struct_entry (image_plus π p) ≡ rename (struct_entry p)
  unfolding struct_entry image_plus
  entry_plus zero = refl
  entry_plus (suc p) = refl

  entry_of_lem : (s : Option Struct) → entry_of (maybe_struct s) ≡ rename (entry_of s)
  unfolding entry_of struct_image
  entry_of_lem None = refl
  entry_of_lem (Some s) = entry_plus s.parent+

  pub entry_image : (d : TypeDef) → entry (type_image π d) ≡ rename (entry d)
  unfolding entry
  entry_image d = ap entry_of (struct_image_lem d) ∙ entry_of_lem (struct_of d)

  pub dyn_image : (v : ValueType) → is_dyn (value_image π v) ≡ is_dyn v
  unfolding value_image is_dyn
  dyn_image (basic k) = refl
  dyn_image (ref t) = refl

  pub good_sig : (d : TypeDef) → coded_type d ≡ true → all_of coded_value (sig_of d).params ≡ true
  unfolding sig_of no_sig coded_type
  good_sig (func s) g = and_first (all_of coded_value s.params) (all_of coded_value s.results) g
  good_sig (struct s) g = refl
  good_sig (TypeDef.array v) g = refl
  good_sig (TypeDef.map k v) g = refl
  good_sig (cell v) g = refl
  good_sig (iter k v) g = refl
  good_sig coroutine g = refl

-- ── comparing ──

-- a word below 13 is no reference's
pub basic_ref : (k t : ℕ) → ltb k basic_types ≡ true → eqb k (first_ref + t) ≡ false
basic_ref k t h = ne_eqb k (first_ref + t) (λ e. omega (arith, ltb-true k basic_types h))

pub ref_basic : (k t : ℕ) → ltb k basic_types ≡ true → eqb (first_ref + t) k ≡ false
ref_basic k t h = ne_eqb (first_ref + t) k (λ e. omega (arith, ltb-true k basic_types h))

pub ref_ref : (t u : ℕ) → eqb (first_ref + t) (first_ref + u) ≡ eqb t u
ref_ref t u = bool_ext (eqb (first_ref + t) (first_ref + u)) (eqb t u)
    (λ h. let q = eqb→eq (first_ref + t) (first_ref + u) h in eqb_of t u (omega arith))
    (λ h. eqb_of (first_ref + t) (first_ref + u) (ap (λ (k : ℕ). first_ref + k) (eqb→eq t u h)))

module _ (π ρ : ℕ → ℕ) (back : (t : ℕ) → ρ (π t) ≡ t) where
  pub same_type_image : (d e : TypeDef) → coded_type d ≡ true → coded_type e ≡ true → same_type (type_image π d) (type_image π e) ≡ same_type d e
  same_type_image d e g h = bool_ext (same_type (type_image π d) (type_image π e)) (same_type d e)
      (λ q. T_of (same_type d e) (type_same d e (type_inj π ρ back d e (same_type_lem (type_image π d) (type_image π e) (good_type π d ∙ g) (good_type π e ∙ h) (T_true (same_type (type_image π d) (type_image π e)) q)))))
      (λ q. T_of (same_type (type_image π d) (type_image π e)) (type_same (type_image π d) (type_image π e) (ap (type_image π) (same_type_lem d e g h (T_true (same_type d e) q)))))

  pub value_word_image : (v w : ValueType) → coded_value v ≡ true → coded_value w ≡ true →
      eqb (value_word (value_image π v)) (value_word (value_image π w)) ≡ eqb (value_word v) (value_word w)
  unfolding value_image value_word coded_value
  value_word_image (basic k) (basic l) g h = refl
  value_word_image (basic k) (ref u) g h = basic_ref k (π u) g ∙ sym (basic_ref k u g)
  value_word_image (ref t) (basic l) g h = ref_basic l (π t) h ∙ sym (ref_basic l t h)
  value_word_image (ref t) (ref u) g h = ref_ref (π t) (π u) ∙ eqb_image π ρ back t u ∙ sym (ref_ref t u)

  -- the fields of one as the first of another
  pub fields_front : (fs gs : List Field) → all_of coded_field fs ≡ true → all_of coded_field gs ≡ true →
      is_front (concat_map encode_field (map (field_image π) fs)) (concat_map encode_field (map (field_image π) gs)) ≡
      is_front (concat_map encode_field fs) (concat_map encode_field gs)
  unfolding encode_field encode_value field_image coded_field
  fields_front [] gs g h = refl
  fields_front (f ∷ fs) [] g h = refl
  fields_front (f ∷ fs) (e ∷ gs) g h =
      let a = all_of coded_field fs in
      let b = all_of coded_field gs in
      rw (
        value_word_image f.type e.type (and_first (coded_field f) a g) (and_first (coded_field e) b h),
        fields_front fs gs (and_second (coded_field f) a g) (and_second (coded_field e) b h),
      )
