-- Rules 2 and 3 under a renumbering.
use Rattle.std.specs.Prelude.{◌≡◌, Bool, true, ℕ, zero, suc, ltb, length, take, Option, None, Some}
use Rattle.std.proofs.Math.Path.{refl, sym, ap, subst}
use Rattle.std.proofs.Common.{ap₂, ◌∙◌}
use mathlib.Core.List.{List, [], ◌∷◌}
use mathlib.Core.List
use Rattle.std.proofs.Math.Dec.{leb}
use Rattle.std.proofs.lemmas.List.{length-map}
use Rattle.lists.specs.Lists.{all_of, concat_map, is_front}
use Rattle.law_faults.specs.Together.{Together, ◌⊕◌, same_together, both_empty, together_map, together_unless, together_range, together_each, together_all}
use Rattle.error.specs.declared.What.TheVariants.{Functions}
use Rattle.error.specs.declared.LoadErrorKind.TheVariants.{BadSignature, BadParent, InheritanceTooDeep}
use Rattle.error.specs.Answer.{in_module, in_range}
use Rattle.sheet.specs.Module.{ValueType, basic, ref, Method, Struct, Sig, TypeDef, func, struct, cell, iter, coroutine, Module, type_at, struct_of}
use Rattle.types.specs.Types.{named_slots, value_faults, string_faults, function_faults, method_faults, struct_faults, sig_faults, type_faults, types_faults}
use Rattle.parents.specs.Forest.{Entry, other, root, sub, entry, entry_at}
use Rattle.parents.specs.Parents.{field_words, fields_first, short_chain, child_faults, parent_faults, parents_faults}
use Rattle.sheet.specs.Coded.{coded_field, coded_type}
use Rattle.sheet.specs.DecodedLaws.{Coded}
use Rattle.renumber.specs.Renumber.{image, value_image, field_image, struct_image, sig_image, type_image, types_image, renumber}
use Rattle.law_renumbering.specs.Bijection.{Listed}
use Rattle.law_renumbering.specs.Images.{maybe_struct, struct_image_lem, fields_front, rename}
use Rattle.sheet.specs.TypeLaws.{good_at}
use Rattle.law_renumbering.specs.CanonMoved.{Moved, struct_moved}
use Rattle.law_renumbering.specs.FamilyMoved.{chain_moved}
use Rattle.law_renumbering.specs.Setting.{moved, range_moved, entry_moved, together_moved, together_moved_from}

-- ── rule 2 ──

take_map : {A B : Type 0} (f : A → B) (n : ℕ) (xs : List A) → take n (List.map f xs) ≡ List.map f (take n xs)
take_map f zero xs = refl
take_map f (suc n) [] = refl
take_map f (suc n) (x ∷ xs) = ap (λ l. f x ∷ l) (take_map f n xs)

module _ (r : List ℕ) (m : Module) (l : Listed (length m.types) r) where
  pub value_together : (v : ValueType) → Together (value_faults m v) (value_faults (renumber r m) (value_image (image r) v))
  unfolding value_faults value_image renumber
  value_together (basic k) = both_empty refl refl
  value_together (ref t) = range_moved (moved r m l) t

  pub values_together : (vs : List ValueType) → Together (concat_map (value_faults m) vs) (concat_map (value_faults (renumber r m)) (List.map (value_image (image r)) vs))
  values_together vs = together_each (value_image (image r)) (value_faults m) (value_faults (renumber r m)) value_together vs

  pub string_together : (s : ℕ) → Together (string_faults m s) (string_faults (renumber r m) s)
  unfolding string_faults renumber
  string_together s = same_together refl

  pub function_range : (f : ℕ) → Together (in_range Functions (length m.funcs) f) (in_range Functions (length (renumber r m).funcs) f)
  unfolding renumber
  function_range f = together_range Functions _ f _ f (ap (ltb f) (sym (length-map m.funcs _)))

  method_together : (x : Method) → Together (method_faults m x) (method_faults (renumber r m) x)
  unfolding method_faults function_faults
  method_together x = function_range x.func ⊕ string_together x.name

  struct_together : (s : Struct) → Together (struct_faults m s) (struct_faults (renumber r m) (struct_image (image r) s))
  unfolding struct_faults struct_image field_image
  struct_together s =
      together_each (field_image (image r)) (λ f. value_faults m f.type) (λ f. value_faults (renumber r m) f.type) (λ f. value_together f.type) s.fields
      ⊕ rw (take_map (field_image (image r)) named_slots s.fields)
      (together_each (field_image (image r)) (λ f. string_faults m f.name) (λ f. string_faults (renumber r m) f.name) (λ f. string_together f.name) (take named_slots s.fields))
      ⊕ together_all (method_faults m) (method_faults (renumber r m)) method_together s.methods
      ⊕ string_together s.name

  sig_together : (s : Sig) → Together (sig_faults m s) (sig_faults (renumber r m) (sig_image (image r) s))
  unfolding sig_faults sig_image
  sig_together s =
      together_unless BadSignature BadSignature (ap (λ (k : ℕ). leb k 1) (sym (length-map s.results (value_image (image r)))))
      ⊕ values_together s.params
      ⊕ values_together s.results

  type_together : (d : TypeDef) → Together (type_faults m d) (type_faults (renumber r m) (type_image (image r) d))
  unfolding type_faults type_image
  type_together (func s) = sig_together s
  type_together (struct s) = struct_together s
  type_together (TypeDef.array v) = value_together v
  type_together (TypeDef.map k v) = value_together k ⊕ value_together v
  type_together (cell v) = value_together v
  type_together (iter k v) = value_together k ⊕ value_together v
  type_together coroutine = both_empty refl refl

  pub types_together : Together (types_faults m) (types_faults (renumber r m))
  unfolding types_faults renumber
  types_together = together_map in_module in_module (together_moved (moved r m l) (type_faults m) (type_faults (renumber r m))
      (λ t. subst (λ (d : TypeDef). Together (type_faults m (type_at m.types t)) (type_faults (renumber r m) d)) (sym ((moved r m l).at t)) (type_together (type_at m.types t))))

-- ── rule 3 ──

abbrev coded_struct : Option Struct → Bool
coded_struct None = true
coded_struct (Some s) = all_of coded_field s.fields

good_struct : (d : TypeDef) → coded_type d ≡ true → coded_struct (struct_of d) ≡ true
unfolding coded_type struct_of
good_struct (func s) g = refl
good_struct (struct s) g = g
good_struct (TypeDef.array v) g = refl
good_struct (TypeDef.map k v) g = refl
good_struct (cell v) g = refl
good_struct (iter k v) g = refl
good_struct coroutine g = refl

module _ (π ρ : ℕ → ℕ) (back : (t : ℕ) → ρ (π t) ≡ t) where
  front_option : (a b : Option Struct) → coded_struct a ≡ true → coded_struct b ≡ true →
      is_front (field_words (maybe_struct π a)) (field_words (maybe_struct π b)) ≡ is_front (field_words a) (field_words b)
  unfolding field_words struct_image
  front_option None b g h = refl
  front_option (Some s) None g h = fields_front π ρ back s.fields [] g refl
  front_option (Some s) (Some u) g h = fields_front π ρ back s.fields u.fields g h

module _ {types types' : List TypeDef} {π ρ : ℕ → ℕ} (w : Moved types types' π ρ) (good : all_of coded_type types ≡ true) where
  struct_of_moved : (t : ℕ) → struct_of (type_at types' (π t)) ≡ maybe_struct π (struct_of (type_at types t))
  struct_of_moved t = ap struct_of (w.at t) ∙ struct_image_lem π (type_at types t)

  fields_moved : (p t : ℕ) → fields_first types p t ≡ fields_first types' (π p) (π t)
  unfolding fields_first
  fields_moved p t = sym (ap₂ (λ a b. is_front (field_words a) (field_words b)) (struct_of_moved p) (struct_of_moved t)
      ∙ front_option π ρ w.bijection.back (struct_of (type_at types p)) (struct_of (type_at types t))
      (good_struct (type_at types p) (good_at types good p)) (good_struct (type_at types t) (good_at types good t)))

  short_moved : (most t : ℕ) → short_chain most types t ≡ short_chain most types' (π t)
  unfolding short_chain
  short_moved most t = ap (λ (k : ℕ). leb k most) (chain_moved w (suc most) t)

  child_together : (most t p : ℕ) → Together (child_faults most types t p) (child_faults most types' (π t) (π p))
  unfolding child_faults
  child_together most t p =
      together_unless BadParent BadParent (sym (struct_moved w p))
      ⊕ together_unless BadParent BadParent (fields_moved p t)
      ⊕ together_unless InheritanceTooDeep InheritanceTooDeep (short_moved most t)

  parent_together : (most t : ℕ) (e : Entry) → Together (parent_faults most types t e) (parent_faults most types' (π t) (rename π e))
  unfolding parent_faults
  parent_together most t other = both_empty refl refl
  parent_together most t root = both_empty refl refl
  parent_together most t (sub p) = child_together most t p

pub parents_together : (most : ℕ) (r : List ℕ) (m : Module) → Listed (length m.types) r → Coded m → Together (parents_faults most m) (parents_faults most (renumber r m))
unfolding parents_faults renumber entry_at
parents_together most r m l good = together_map in_module in_module (together_moved_from (moved r m l)
    (λ t d. parent_faults most m.types t (entry d)) (λ t d. parent_faults most (types_image r m.types) t (entry d))
    (λ t. subst (λ (e : Entry). Together (parent_faults most m.types t (entry_at m.types t)) (parent_faults most (types_image r m.types) (image r t) e))
    (sym (entry_moved (moved r m l) t)) (parent_together (moved r m l) good.types most t (entry_at m.types t))))
