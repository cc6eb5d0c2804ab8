-- The two sections of globals, as lists of value types are written.
use Prim.Native.Nat.{ℕ, suc, ◌+◌, ◌≤◌, ◌<◌, min}
use mathlib.Core.Path.{◌≡◌, refl, sym, ap, ap₂, ◌∙◌}
use mathlib.Core.List.{List, [], ◌∷◌}
use mathlib.Core.List
use mathlib.Core.Bool.{Bool, true, false, cond}
use native.Mathlib.Omega.{arith}
use lib.ListN.{length, length-map}
use Rattle.lists.specs.Lists.{concat_map, places_from}
use Rattle.blocks.specs.Frame.{first_words}
use Rattle.error.specs.Answer.{in_module}
use Rattle.law_faults.specs.Empty.{map_empty}
use Rattle.reader.specs.Reader.{list_of, encode_words}
use Rattle.reader.specs.Value.{Whole, value_of}
use Rattle.reader.specs.ValueLaws.{got_whole, value_got, list_within}
use Rattle.sheet.specs.Module.{is_reference, Global}
use Rattle.sheet.specs.Decode.{global_of}
use Rattle.canon.specs.Canon.{canon_word}
use Rattle.imports.specs.Imports.{global_faults, globals_faults}
use Rattle.open_layout.specs.Opened.{module_in}
use Rattle.open_sheet.specs.declared.Opened.{Opened}
use Rattle.open_sheet.specs.Ready.{Opens}
use Rattle.open_sheet.specs.ReadyLaws.{count_globals}
use Rattle.table.specs.Records.{references}
use Rattle.table.specs.Table.{global_section, reference_section}
use Rattle.writing.specs.Writing.{written}
use Rattle.table_values.specs.Values.{values_at, Values, Present}
use Rattle.table_values.specs.ValuesLaws.{values_globals, globals_present, globals_values}

-- ── lists ──

map_map : {A B C : Type 0} (f : B → C) (g : A → B) (xs : List A) → List.map f (List.map g xs) ≡ List.map (λ x. f (g x)) xs
map_map f g [] = refl
map_map f g (x ∷ xs) = ap (λ l. f (g x) ∷ l) (map_map f g xs)

places_map : {A B : Type 0} (p : B → Bool) (g : A → B) (k : ℕ) (xs : List A) → places_from k p (List.map g xs) ≡ places_from k (λ x. p (g x)) xs
places_map p g k [] = refl
places_map p g k (x ∷ xs) = ap (λ l. cond (p (g x)) (k ∷ l) l) (places_map p g (suc k) xs)

-- no place is above the last
places_capped : {A : Type 0} (p : A → Bool) (most k : ℕ) (xs : List A) → k + length xs ≤ most + 1 → List.map (min most) (places_from k p xs) ≡ places_from k p xs
places_capped p most k [] h = refl
places_capped p most k (x ∷ xs) h = go (p x) (places_from (suc k) p xs) (places_capped p most (suc k) xs (omega arith))
  where
    go : (b : Bool) (l : List ℕ) → List.map (min most) l ≡ l → List.map (min most) (cond b (k ∷ l) l) ≡ cond b (k ∷ l) l
    go true l e = let z : min most k ≡ k = omega arith in ap₂ (λ a t. a ∷ t) z e
    go false l e = e

-- ── where the globals stand ──

pub globals_in : (b : List ℕ) (o : Opened) → Opens (first_words b o.layout.words) o → o.layout.globals < o.layout.words
globals_in b o x = list_within global_of b o.layout.words o.layout.globals (got_whole x.located.globals)

module _ (ws : List ℕ) (o : Opened) (x : Opens ws o) where
  globals_whole : Whole (list_of global_of ws o.layout.globals)
  globals_whole = got_whole x.located.globals

  globals_are : value_of [] (list_of global_of ws o.layout.globals) ≡ (module_in ws).globals
  globals_are = value_got [] x.located.globals

  globals_count : o.counts.globals ≡ length (value_of [] (list_of global_of ws o.layout.globals))
  globals_count = count_globals ws o x ∙ ap length (sym globals_are)

  types_are : values_at ws (o.layout.globals + 1) 2 o.counts.globals ≡ List.map (λ g. g.type) (module_in ws).globals
  types_are =
      values_globals ws o.layout.globals o.counts.globals globals_whole globals_count
      ∙ ap (List.map (λ (g : Global). g.type)) globals_are

  pub global_types : globals_faults (module_in ws) ≡ [] → Values ws (o.layout.globals + 1) 2 o.counts.globals
  unfolding globals_faults
  global_types e =
      globals_values ws o.layout.globals o.counts.globals globals_whole globals_count
      (ap (concat_map (global_faults (module_in ws))) globals_are
      ∙ (map_empty in_module (concat_map (global_faults (module_in ws)) (module_in ws).globals)).0 e)

  pub global_present : Present ws (o.layout.globals + 1) 2 o.counts.globals
  global_present = globals_present ws o.layout.globals o.counts.globals globals_whole globals_count

  -- ── what is written ──

  global_words : encode_words (List.map (canon_word (module_in ws).types) (values_at ws (o.layout.globals + 1) 2 o.counts.globals)) ≡ global_section (module_in ws)
  unfolding global_section
  global_words =
      ap encode_words
      (ap (List.map (canon_word (module_in ws).types)) types_are
      ∙ map_map (canon_word (module_in ws).types) (λ (g : Global). g.type) (module_in ws).globals)

  pub globals_room : (end at : ℕ) → at + length (global_section (module_in ws)) ≤ end → at + 1 + o.counts.globals ≤ end
  unfolding global_section
  globals_room end at h =
      omega (arith, count_globals ws o x, length-map (module_in ws).globals (λ (g : Global). canon_word (module_in ws).types g.type))

  pub globals_written : (w v : List ℕ) (at : ℕ) → v ≡ written w at (encode_words (List.map (canon_word (module_in ws).types) (values_at ws (o.layout.globals + 1) 2 o.counts.globals)))
      → v ≡ written w at (global_section (module_in ws))
  globals_written w v at e = e ∙ ap (written w at) global_words

  pub globals_place : (at r : ℕ) → r ≡ at + length (encode_words (List.map (canon_word (module_in ws).types) (values_at ws (o.layout.globals + 1) 2 o.counts.globals)))
      → r ≡ at + length (global_section (module_in ws))
  globals_place at r e = e ∙ ap (λ l. at + length l) global_words

  -- ── references ──

  module _ (most : ℕ) (l : o.counts.globals ≤ most + 1) where
    reference_words : encode_words (List.map (min most) (references (values_at ws (o.layout.globals + 1) 2 o.counts.globals))) ≡ reference_section (module_in ws)
    unfolding reference_section references
    reference_words =
        ap encode_words
        (ap (λ vs. List.map (min most) (places_from 0 is_reference vs)) types_are
        ∙ ap (List.map (min most)) (places_map is_reference (λ (g : Global). g.type) 0 (module_in ws).globals)
        ∙ places_capped (λ (g : Global). is_reference g.type) most 0 (module_in ws).globals (omega (arith, count_globals ws o x)))

    pub references_room : (end at : ℕ) → at + length (reference_section (module_in ws)) ≤ end
        → at + length (encode_words (List.map (min most) (references (values_at ws (o.layout.globals + 1) 2 o.counts.globals)))) ≤ end
    references_room end at h = omega (arith, ap length reference_words)

    pub references_written : (w v : List ℕ) (at : ℕ) → v ≡ written w at (encode_words (List.map (min most) (references (values_at ws (o.layout.globals + 1) 2 o.counts.globals))))
        → v ≡ written w at (reference_section (module_in ws))
    references_written w v at e = e ∙ ap (written w at) reference_words

    pub references_place : (at r : ℕ) → r ≡ at + length (encode_words (List.map (min most) (references (values_at ws (o.layout.globals + 1) 2 o.counts.globals))))
        → r ≡ at + length (reference_section (module_in ws))
    references_place at r e = e ∙ ap (λ l. at + length l) reference_words
