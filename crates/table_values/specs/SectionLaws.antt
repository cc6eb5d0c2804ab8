-- What the lists that code writes are in the records and sections of the linked table.
use Rattle.std.specs.Prelude.{ℕ, suc, ◌+◌, ◌≤◌, min, ◌≡◌, refl, List, [], ◌∷◌, map, Bool, true, false, cond, length}
use Rattle.std.proofs.Math.Path.{ap}
use Rattle.std.proofs.Common.{ap₂, ◌∙◌, arith}
use Rattle.std.proofs.lemmas.List.{length-map}
use Rattle.lists.specs.Lists.{concat_map, places_from}
use Rattle.lists.specs.ListLaws.{places_from_few}
use Rattle.error.specs.declared.LoadErrorKind.{LoadErrorKind}
use Rattle.error.specs.declared.What.TheVariants.{Types}
use Rattle.error.specs.Answer.{in_range}
use Rattle.reader.specs.Reader.{Got, list_of, encode_words}
use Rattle.reader.specs.Value.{Whole, value_of}
use Rattle.sheet.specs.Module.{ValueType, is_reference, Module}
use Rattle.sheet.specs.Decode.{value_type, field_of, global_of}
use Rattle.canon.specs.Canon.{canon_word}
use Rattle.funcs.specs.Funcs.{type_ref_faults}
use Rattle.law_judging.specs.Judging.{list_faults}
use Rattle.table.specs.Records.{references, canon_words}
use Rattle.table_values.specs.Values.{values_at}
use Rattle.table_values.specs.ValuesLaws.{values_list, values_fields, values_globals}

-- ── references ──

-- no more places than value types
pub references_few : (most : ℕ) (vs : List ValueType) → length (encode_words (map (min most) (references vs))) ≤ 1 + length vs
unfolding references
references_few most vs = omega (arith, length-map (references vs) (min most), places_from_few is_reference 0 vs)

-- places that none is above
places_below : {A : Type 0} (test : A → Bool) (most k : ℕ) (xs : List A) → k + length xs ≤ most + 1 → map (min most) (places_from k test xs) ≡ places_from k test xs
places_below test most k [] h = refl
places_below test most k (x ∷ xs) h = go (test x) (places_from (suc k) test xs) (places_below test most (suc k) xs (omega arith))
  where
    go : (t : Bool) (l : List ℕ) → map (min most) l ≡ l → map (min most) (cond t (k ∷ l) l) ≡ cond t (k ∷ l) l
    go true l e = let z : min most k ≡ k = omega arith in ap₂ ◌∷◌ z e
    go false l e = e

pub references_below : (most : ℕ) (vs : List ValueType) → length vs ≤ most + 1 → map (min most) (references vs) ≡ references vs
unfolding references
references_below most vs h = places_below is_reference most 0 vs (omega arith)

-- of one value type in each member
places_map : {A B : Type 0} (test : B → Bool) (g : A → B) (k : ℕ) (xs : List A) → places_from k test (map g xs) ≡ places_from k (λ x. test (g x)) xs
places_map test g k [] = refl
places_map test g k (x ∷ xs) = ap (λ l. cond (test (g x)) (k ∷ l) l) (places_map test g (suc k) xs)

pub references_map : {A : Type 0} (g : A → ValueType) (xs : List A) → references (map g xs) ≡ places_from 0 (λ x. is_reference (g x)) xs
unfolding references
references_map g xs = places_map is_reference g 0 xs

map_map : {A B C : Type 0} (f : B → C) (g : A → B) (xs : List A) → map f (map g xs) ≡ map (λ x. f (g x)) xs
map_map f g [] = refl
map_map f g (x ∷ xs) = ap (λ l. f (g x) ∷ l) (map_map f g xs)

-- ── registers and captures ──

module _ (ws : List ℕ) (at n : ℕ) (h : Whole (list_of value_type ws at)) (c : n ≡ length (value_of [] (list_of value_type ws at))) where
  pub list_canons : (m : Module) → encode_words (map (canon_word m.types) (values_at ws (at + 1) 1 n)) ≡ canon_words m (value_of [] (list_of value_type ws at))
  unfolding canon_words
  list_canons m = ap (λ vs. encode_words (map (canon_word m.types) vs)) (values_list ws at n h c)

  pub list_references : (most : ℕ) → n ≤ most + 1
      → encode_words (map (min most) (references (values_at ws (at + 1) 1 n))) ≡ encode_words (references (value_of [] (list_of value_type ws at)))
  list_references most l =
      ap (λ vs. encode_words (map (min most) (references vs))) (values_list ws at n h c)
      ∙ ap (λ ps. encode_words ps) (references_below most (value_of [] (list_of value_type ws at)) (omega arith))

-- ── fields ──

module _ (ws : List ℕ) (at n : ℕ) (h : Whole (list_of field_of ws at)) (c : n ≡ length (value_of [] (list_of field_of ws at))) where
  pub fields_canons : (m : Module) → encode_words (map (canon_word m.types) (values_at ws (at + 2) 2 n)) ≡ canon_words m (map (λ f. f.type) (value_of [] (list_of field_of ws at)))
  unfolding canon_words
  fields_canons m = ap (λ vs. encode_words (map (canon_word m.types) vs)) (values_fields ws at n h c)

  pub fields_references : (most : ℕ) → encode_words (map (min most) (references (values_at ws (at + 2) 2 n)))
      ≡ encode_words (map (min most) (references (map (λ f. f.type) (value_of [] (list_of field_of ws at)))))
  fields_references most = ap (λ vs. encode_words (map (min most) (references vs))) (values_fields ws at n h c)

-- ── globals ──

module _ (ws : List ℕ) (at n : ℕ) (h : Whole (list_of global_of ws at)) (c : n ≡ length (value_of [] (list_of global_of ws at))) where
  pub globals_canons : (m : Module) → encode_words (map (canon_word m.types) (values_at ws (at + 1) 2 n))
      ≡ encode_words (map (λ g. canon_word m.types g.type) (value_of [] (list_of global_of ws at)))
  globals_canons m =
      ap (λ vs. encode_words (map (canon_word m.types) vs)) (values_globals ws at n h c)
      ∙ ap (λ l. encode_words l) (map_map (canon_word m.types) (λ g. g.type) (value_of [] (list_of global_of ws at)))

  pub globals_references : (most : ℕ) → n ≤ most + 1
      → encode_words (map (min most) (references (values_at ws (at + 1) 2 n))) ≡ encode_words (places_from 0 (λ g. is_reference g.type) (value_of [] (list_of global_of ws at)))
  globals_references most l =
      let gs = value_of [] (list_of global_of ws at) in
      ap (λ vs. encode_words (map (min most) (references vs))) (values_globals ws at n h c)
      ∙ ap (λ ps. encode_words ps) (references_below most (map (λ g. g.type) gs) (omega (arith, length-map gs (λ g. g.type))) ∙ references_map (λ g. g.type) gs)

-- ── names and type refs ──

-- nothing broken in the members
pub list_clear : {A : Type 0} (faults : A → List LoadErrorKind) (g : Got (List A)) → concat_map faults (value_of [] g) ≡ [] → list_faults faults g ≡ []
unfolding list_faults
list_clear faults g e = e

pub refs_clear : (m : Module) (g : Got (List ℕ)) → concat_map (type_ref_faults m) (value_of [] g) ≡ [] → list_faults (in_range Types (length m.types)) g ≡ []
unfolding list_faults type_ref_faults
refs_clear m g e = e
