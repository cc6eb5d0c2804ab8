-- The value types of registers, captures, fields and globals.
use Rattle.std.specs.Prelude.{ℕ, suc, ◌+◌, ◌*◌, ◌<◌, ◌≡◌, refl, List, [], map, Bool, length, get_or, take}
use Rattle.std.proofs.Common.{sym, ap, ◌∙◌, map-id, arith, length-take, ext_get_or}
use Rattle.std.proofs.lemmas.List.{length-map}
use Rattle.lists.specs.Lists.{concat_map, from}
use Rattle.lists.specs.ListLaws.{length_concat_map, length_from, get_d_map_from, map_at}
use Rattle.law_faults.specs.Empty.{append_empty, every}
use Rattle.reader.specs.Reader.{got, Reader, word, list_of}
use Rattle.reader.specs.ReaderLaws.{Codes, then_inv, word_codes}
use Rattle.reader.proofs.ReadLaws.{listed_at}
use Rattle.reader.specs.Value.{Whole, value_of}
use Rattle.reader.specs.ValueLaws.{whole_inv, got_whole, value_got}
use Rattle.sheet.specs.Module.{ValueType, dyn, Field, Global}
use Rattle.sheet.specs.Decode.{value_type, field_of, global_of}
use Rattle.sheet.specs.Encode.{encode_value, encode_field, encode_global}
use Rattle.sheet.specs.Coded.{coded_value, coded_field, coded_global}
use Rattle.sheet.proofs.TypeCodes.{value_codes, field_codes}
use Rattle.sheet.proofs.FuncCodes.{global_codes}
use Rattle.types.specs.Types.{value_faults}
use Rattle.imports.specs.Imports.{init_faults, global_faults}
use Rattle.open_layout.specs.Opened.{module_in}
use Rattle.table_values.specs.Values.{values_at, Values, Present}

-- ── value types, one by one ──

pub values_length : (ws : List ℕ) (first stride n : ℕ) → length (values_at ws first stride n) ≡ n
unfolding values_at
values_length ws first stride n = length-map (from 0 n) (λ i. value_of dyn (value_type ws (first + stride * i))) ∙ length_from 0 n

pub values_at_lem : (ws : List ℕ) (first stride n i : ℕ) → i < n → get_or (values_at ws first stride n) i dyn ≡ value_of dyn (value_type ws (first + stride * i))
unfolding values_at
values_at_lem ws first stride n i h =
    let z : 0 + i ≡ i = omega arith in
    get_d_map_from (λ i. value_of dyn (value_type ws (first + stride * i))) dyn 0 n i h ∙ ap (λ j. value_of dyn (value_type ws (first + stride * j))) z

pub values_present : (ws : List ℕ) (first stride n : ℕ) → Values ws first stride n → Present ws first stride n
values_present ws first stride n x = record { whole = x.whole }

-- ── one in each member of a list ──

-- a member takes s words, and its value type stands k words after its first
pub record Holds {A : Type 0} (f : Reader A) (s k : ℕ) (g : A → ValueType) : Type 1 where
  pub starts : {C : Type 0} (ws : List ℕ) (at : ℕ) (xs : List A) (q : ℕ) → list_of f ws at ≡ got xs q → (i : ℕ) (d : A) → i < length xs
      → ((r : ℕ) → f ws (at + 1 + s * i) ≡ got (get_or xs i d) r → C) → C
  pub type : {C : Type 0} (ws : List ℕ) (p : ℕ) (a : A) (q : ℕ) → f ws p ≡ got a q → ((r : ℕ) → value_type ws (p + k) ≡ got (g a) r → C) → C

module _ {A : Type 0} (f : Reader A) (enc : A → List ℕ) (ok : A → Bool) (s : ℕ) (l : (ws : List ℕ) → Codes ws f enc ok) (e : (a : A) → length (enc a) ≡ s) where
  sized_starts : {C : Type 0} (ws : List ℕ) (at : ℕ) (xs : List A) (q : ℕ) → list_of f ws at ≡ got xs q → (i : ℕ) (d : A) → i < length xs
      → ((r : ℕ) → f ws (at + 1 + s * i) ≡ got (get_or xs i d) r → C) → C
  sized_starts ws at xs q h i d b k =
      let m : length (take i xs) ≡ i = omega (arith, length-take i xs) in
      let z : at + 1 + s * i ≡ at + 1 + length (concat_map enc (take i xs)) = omega (arith, length_concat_map enc s e (take i xs), ap (λ j. s * j) m) in
      k (at + 1 + length (concat_map enc (take (suc i) xs))) (ap (f ws) z ∙ listed_at ws f enc ok (l ws) at xs q h i d b)

pub value_holds : Holds value_type 1 0 (λ v. v)
unfolding encode_value
value_holds = record {
  starts = sized_starts value_type encode_value coded_value 1 value_codes (λ v. refl);
  type = λ ws p a q e k. let z : p + 0 ≡ p = omega arith in k q (ap (value_type ws) z ∙ e);
}

-- a name, then the type
pub field_holds : Holds field_of 2 1 (λ f. f.type)
unfolding encode_field encode_value field_of
field_holds = record {
  starts = sized_starts field_of encode_field coded_field 2 field_codes (λ v. refl);
  type = λ ws p a q e k. then_inv (word ws p) _ e λ n p₁ e₁ e₂. then_inv (value_type ws p₁) _ e₂ λ t p₂ e₃ e₄.
      let y : t ≡ a.type = same e₄ in
      let z : p + 1 ≡ p₁ = sym ((word_codes ws).found p n p₁ e₁).stands.end in
      k p₂ (ap (value_type ws) z ∙ e₃ ∙ ap (λ v. got v p₂) y);
}
  where
    same : {t : ValueType} {n p q : ℕ} {a : Field} → got (record { name = n; type = t }) p ≡ got a q → t ≡ a.type
    same {t} {n} {p} {q} {a} e = let z : record { name = n; type = t } ≡ a = cc in ap (λ (g : Field). g.type) z

-- the type, then a constant + 1
pub global_holds : Holds global_of 2 0 (λ g. g.type)
unfolding encode_global encode_value global_of
global_holds = record {
  starts = sized_starts global_of encode_global coded_global 2 global_codes (λ v. refl);
  type = λ ws p a q e k. then_inv (value_type ws p) _ e λ t p₁ e₁ e₂. then_inv (word ws p₁) _ e₂ λ n p₂ e₃ e₄.
      let y : t ≡ a.type = same e₄ in
      let z : p + 0 ≡ p = omega arith in
      k p₁ (ap (value_type ws) z ∙ e₁ ∙ ap (λ v. got v p₁) y);
}
  where
    same : {t : ValueType} {n p q : ℕ} {a : Global} → got (record { type = t; init+ = n }) p ≡ got a q → t ≡ a.type
    same {t} {n} {p} {q} {a} e = let z : record { type = t; init+ = n } ≡ a = cc in ap (λ (g : Global). g.type) z

module _ {A : Type 0} (f : Reader A) (s k : ℕ) (g : A → ValueType) (x : Holds f s k g) (d : A) (ws : List ℕ) (at n : ℕ) (h : Whole (list_of f ws at))
    (c : n ≡ length (value_of [] (list_of f ws at))) where
  member : {C : Type 0} (first : ℕ) → first ≡ at + 1 + k → (i : ℕ) → i < n → ((r : ℕ) → value_type ws (first + s * i) ≡ got (g (get_or (value_of [] (list_of f ws at)) i d)) r → C) → C
  member first w i l t = whole_inv (list_of f ws at) h λ xs q e.
      let v : value_of [] (list_of f ws at) ≡ xs = value_got [] e in
      x.starts ws at xs q e i d (omega (arith, ap length v)) λ r y.
      x.type ws (at + 1 + s * i) (get_or xs i d) r y λ r₂ z.
      let p : first + s * i ≡ at + 1 + s * i + k = omega arith in
      t r₂ (ap (value_type ws) p ∙ z ∙ ap (λ l. got (g (get_or l i d)) r₂) (sym v))

  pub members_types : (first : ℕ) → first ≡ at + 1 + k → values_at ws first s n ≡ map g (value_of [] (list_of f ws at))
  members_types first w =
      ext_get_or dyn (values_at ws first s n) (map g (value_of [] (list_of f ws at)))
      (values_length ws first s n ∙ c ∙ sym (length-map (value_of [] (list_of f ws at)) g))
      λ i l.
      let b : i < n = omega (arith, values_length ws first s n) in
      values_at_lem ws first s n i b ∙ member first w i b (λ r e. value_got dyn e) ∙ sym (map_at g d dyn (value_of [] (list_of f ws at)) i (omega arith))

  pub members_present : (first : ℕ) → first ≡ at + 1 + k → Present ws first s n
  members_present first w = record { whole = λ i l. member first w i l λ r e. got_whole e }

  pub members_hold_lem : (first : ℕ) → first ≡ at + 1 + k → concat_map (λ a. value_faults (module_in ws) (g a)) (value_of [] (list_of f ws at)) ≡ [] → Values ws first s n
  members_hold_lem first w b = record {
    whole = λ i l. member first w i l λ r e. got_whole e;
    holds = λ i l.
        ap (value_faults (module_in ws)) (member first w i l λ r e. value_got dyn e)
        ∙ (every d (λ a. value_faults (module_in ws) (g a)) (value_of [] (list_of f ws at))).0 b i (omega arith);
  }

-- ── registers and captures ──

module _ (ws : List ℕ) (at n : ℕ) (h : Whole (list_of value_type ws at)) (c : n ≡ length (value_of [] (list_of value_type ws at))) where
  pub values_list : values_at ws (at + 1) 1 n ≡ value_of [] (list_of value_type ws at)
  values_list =
      members_types value_type 1 0 (λ v. v) value_holds dyn ws at n h c (at + 1) (omega arith)
      ∙ map-id (value_of [] (list_of value_type ws at))

  pub list_present : Present ws (at + 1) 1 n
  list_present = members_present value_type 1 0 (λ v. v) value_holds dyn ws at n h c (at + 1) (omega arith)

  pub list_values : concat_map (value_faults (module_in ws)) (value_of [] (list_of value_type ws at)) ≡ [] → Values ws (at + 1) 1 n
  list_values = members_hold_lem value_type 1 0 (λ v. v) value_holds dyn ws at n h c (at + 1) (omega arith)

-- ── fields ──

module _ (ws : List ℕ) (at n : ℕ) (h : Whole (list_of field_of ws at)) (c : n ≡ length (value_of [] (list_of field_of ws at))) where
  none : Field
  none = record { name = 0; type = dyn }

  pub values_fields : values_at ws (at + 2) 2 n ≡ map (λ f. f.type) (value_of [] (list_of field_of ws at))
  values_fields = members_types field_of 2 1 (λ f. f.type) field_holds none ws at n h c (at + 2) (omega arith)

  pub fields_present : Present ws (at + 2) 2 n
  fields_present = members_present field_of 2 1 (λ f. f.type) field_holds none ws at n h c (at + 2) (omega arith)

  pub fields_values : concat_map (λ f. value_faults (module_in ws) f.type) (value_of [] (list_of field_of ws at)) ≡ [] → Values ws (at + 2) 2 n
  fields_values = members_hold_lem field_of 2 1 (λ f. f.type) field_holds none ws at n h c (at + 2) (omega arith)

-- ── globals ──

module _ (ws : List ℕ) (at n : ℕ) (h : Whole (list_of global_of ws at)) (c : n ≡ length (value_of [] (list_of global_of ws at))) where
  no_global_lem : Global
  no_global_lem = record { type = dyn; init+ = 0 }

  pub values_globals : values_at ws (at + 1) 2 n ≡ map (λ g. g.type) (value_of [] (list_of global_of ws at))
  values_globals = members_types global_of 2 0 (λ g. g.type) global_holds no_global_lem ws at n h c (at + 1) (omega arith)

  pub globals_present : Present ws (at + 1) 2 n
  globals_present = members_present global_of 2 0 (λ g. g.type) global_holds no_global_lem ws at n h c (at + 1) (omega arith)

  -- a global's faults are its type's, then its constant's
  types_hold : (gs : List Global) → concat_map (global_faults (module_in ws)) gs ≡ [] → concat_map (λ g. value_faults (module_in ws) g.type) gs ≡ []
  unfolding global_faults
  types_hold gs e =
      (every no_global_lem (λ g. value_faults (module_in ws) g.type) gs).1 λ i l.
      ((append_empty (value_faults (module_in ws) (get_or gs i no_global_lem).type) (init_faults (module_in ws) (get_or gs i no_global_lem).init+)).0
      ((every no_global_lem (global_faults (module_in ws)) gs).0 e i l)).0

  pub globals_values : concat_map (global_faults (module_in ws)) (value_of [] (list_of global_of ws at)) ≡ [] → Values ws (at + 1) 2 n
  globals_values e =
      members_hold_lem global_of 2 0 (λ g. g.type) global_holds no_global_lem ws at n h c (at + 1) (omega arith)
      (types_hold (value_of [] (list_of global_of ws at)) e)
