-- Words that stay words, and as many, where each mention of type t becomes one of type π t.
use Rattle.std.specs.Prelude.{◌≡◌, refl, Bool, cond, List, [], ◌∷◌, ◌++◌, map, eqb, length}
use Rattle.std.proofs.Common.{sym, ap₂, ◌∙◌, arith, lt-ltb, ltb-true, length-append}
use Rattle.std.proofs.Math.Bool.{true, false}
use Prim.Native.Nat.{ℕ, zero, suc, ◌+◌, ◌≤◌, ◌<◌, max}
use Rattle.std.proofs.lemmas.List.{length-map}
use Rattle.lists.specs.Lists.{all_of, concat_map}
use Rattle.lists.specs.ListLaws.{both, and_first, and_second}
use Rattle.lists.specs.AllLaws.{all_join}
use Rattle.blocks.specs.ByteLaws.{is_word}
use Rattle.reader.specs.Reader.{encode_list, encode_words}
use Rattle.sheet.specs.Module.{ValueType, basic, ref, first_ref, value_word, Field, TypeDef, func, struct, cell, iter, coroutine, kind_word, Import, Global, Func, Export}
use Rattle.sheet.specs.Encode.{encode_value, encode_field, encode_method, encode_struct, encode_body, encode_type, encode_params, encode_import, encode_global, encode_arg, encode_handler, encode_switch, encode_inst, encode_func, encode_export}
use Rattle.sheet.specs.DecodedLaws.{most_words}
use Rattle.renumber.specs.Renumber.{image_plus, value_image, field_image, struct_image, sig_image, type_image, import_image, global_image, func_image, export_image}

-- ── lists of words ──

-- ys are as many as xs; and words if xs are, where the types, n, are no more than a sheet has words
pub record Kept (n : ℕ) (xs ys : List ℕ) : Type 0 where
  pub size : length ys ≡ length xs
  pub words : n ≤ most_words → all_of is_word xs ≡ true → all_of is_word ys ≡ true

pub self : {n : ℕ} (xs : List ℕ) → Kept n xs xs
self xs = record { size = refl; words = λ few h. h }

pub word : {n : ℕ} (x y : ℕ) → (n ≤ most_words → x < 4294967296 → y < 4294967296) → Kept n (x ∷ []) (y ∷ [])
word x y f = record {
  size = refl;
  words = λ few h. both (lt-ltb y 4294967296 (f few (ltb-true x 4294967296 (and_first (is_word x) true h)))) refl;
}

infixl 65 ◌⊕◌
pub ◌⊕◌ : {n : ℕ} {xs ys us vs : List ℕ} → Kept n xs ys → Kept n us vs → Kept n (xs ++ us) (ys ++ vs)
◌⊕◌ {n} {xs} {ys} {us} {vs} k l = record {
  size = length-append ys vs ∙ ap₂ ◌+◌ k.size l.size ∙ sym (length-append xs us);
  words = λ few h.
      let e = sym (all_join is_word xs us) ∙ h in
      all_join is_word ys vs ∙ both (k.words few (and_first (all_of is_word xs) (all_of is_word us) e)) (l.words few (and_second (all_of is_word xs) (all_of is_word us) e));
}

-- the counts of two lists
pub counted : {n : ℕ} {A : Type 0} (xs ys : List A) → length ys ≡ length xs → Kept n (length xs ∷ []) (length ys ∷ [])
counted xs ys e = word (length xs) (length ys) λ few h. omega arith

module _ {n : ℕ} {A : Type 0} (enc : A → List ℕ) (f : A → A) (part : (x : A) → Kept n (enc x) (enc (f x))) where
  each : (xs : List A) → Kept n (concat_map enc xs) (concat_map enc (map f xs))
  each [] = self []
  each (x ∷ xs) = part x ⊕ each xs

  pub list_kept : (xs : List A) → Kept n (encode_list enc xs) (encode_list enc (map f xs))
  list_kept xs = counted xs (map f xs) (length-map xs f) ⊕ each xs

-- ── mentions ──

-- π takes no number past n, or past itself
module _ (n : ℕ) (π : ℕ → ℕ) (near : (t : ℕ) → π t ≤ max t n) where
  number_kept : (t : ℕ) → Kept n (t ∷ []) (π t ∷ [])
  number_kept t = word t (π t) λ few h. omega (arith, near t)

  numbers_kept : (ts : List ℕ) → Kept n ts (map π ts)
  numbers_kept [] = self []
  numbers_kept (t ∷ ts) = number_kept t ⊕ numbers_kept ts

  plus_kept : (t : ℕ) → Kept n (t ∷ []) (image_plus π t ∷ [])
  unfolding image_plus
  plus_kept zero = self (0 ∷ [])
  plus_kept (suc t) = word (suc t) (suc (π t)) λ few h. omega (arith, near t)

  value_kept : (v : ValueType) → Kept n (encode_value v) (encode_value (value_image π v))
  unfolding encode_value value_word value_image
  value_kept (basic k) = self (k ∷ [])
  value_kept (ref t) = word (first_ref + t) (first_ref + π t) λ few h. omega (arith, near t)

  values_kept : (vs : List ValueType) → Kept n (encode_list encode_value vs) (encode_list encode_value (map (value_image π) vs))
  values_kept vs = list_kept encode_value (value_image π) value_kept vs

  field_kept : (f : Field) → Kept n (encode_field f) (encode_field (field_image π f))
  unfolding encode_field field_image
  field_kept f = self (f.name ∷ []) ⊕ value_kept f.type

  pub type_kept : (d : TypeDef) → Kept n (encode_type d) (encode_type (type_image π d))
  unfolding encode_type encode_body encode_struct kind_word type_image sig_image struct_image
  type_kept (func s) = self (0 ∷ []) ⊕ values_kept s.params ⊕ values_kept s.results
  type_kept (struct s) =
      self (1 ∷ s.name ∷ [])
      ⊕ plus_kept s.parent+
      ⊕ list_kept encode_field (field_image π) field_kept s.fields
      ⊕ self (encode_list encode_method s.methods)
  type_kept (TypeDef.array v) = self (2 ∷ []) ⊕ value_kept v
  type_kept (TypeDef.map k v) = self (3 ∷ []) ⊕ value_kept k ⊕ value_kept v
  type_kept (cell v) = self (4 ∷ []) ⊕ value_kept v
  type_kept (iter k v) = self (5 ∷ []) ⊕ value_kept k ⊕ value_kept v
  type_kept coroutine = self (6 ∷ [])

  pub import_kept : (i : Import) → Kept n (encode_import i) (encode_import (import_image π i))
  unfolding encode_import import_image
  import_kept i = self (i.module_name ∷ i.name ∷ []) ⊕ number_kept i.sig ⊕ self (encode_params i.params)

  pub global_kept : (g : Global) → Kept n (encode_global g) (encode_global (global_image π g))
  unfolding encode_global encode_value global_image
  global_kept g = value_kept g.type ⊕ self (g.init+ ∷ [])

  pub func_kept : (f : Func) → Kept n (encode_func f) (encode_func (func_image π f))
  unfolding encode_func func_image
  func_kept f =
      number_kept f.sig
      ⊕ values_kept f.regs
      ⊕ self (encode_params f.params)
      ⊕ self (encode_list (encode_list encode_arg) f.shapes)
      ⊕ values_kept f.captures
      ⊕ self (encode_words f.names)
      ⊕ (counted f.type_refs (map π f.type_refs) (length-map f.type_refs π) ⊕ numbers_kept f.type_refs)
      ⊕ self (encode_list encode_handler f.handlers)
      ⊕ self (encode_list encode_switch f.tables)
      ⊕ self (encode_list encode_inst f.code)

  pub export_kept : (e : Export) → Kept n (encode_export e) (encode_export (export_image π e))
  unfolding encode_export export_image
  export_kept e = self (e.kind ∷ e.name ∷ []) ⊕ go (eqb e.kind 2)
    where
      go : (b : Bool) → Kept n (e.index ∷ []) (cond b (π e.index) e.index ∷ [])
      go true = number_kept e.index
      go false = self (e.index ∷ [])
