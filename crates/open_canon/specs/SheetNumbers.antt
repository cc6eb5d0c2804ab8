-- The numbers of an intact sheet's strings and types: what the contract gives over the index is what rule 1 says.
use Rattle.std.specs.Prelude.{ℕ, zero, suc, ◌+◌, ◌≤◌, ◌<◌, ◌≡◌, Bool, false, cond, get_or}
use Rattle.std.proofs.Math.Path.{refl, ap}
use Rattle.std.proofs.Common.{sym, ◌∙◌, arith, add-one, ext_get_or}
use mathlib.Core.List.{List, [], ◌∷◌, map}
use Rattle.std.proofs.Math.Bool.{true}
use Rattle.std.proofs.Math.ListN.{length}
use Rattle.std.proofs.lemmas.List.{length-map}
use Rattle.lists.specs.Lists.{all_of, from, first_at, same}
use Rattle.lists.specs.ListLaws.{all_at, map_agree}
use Rattle.lists.specs.FirstLaws.{first_map, first_agree}
use Rattle.blocks.specs.ByteLaws.{is_word}
use Rattle.utf8.specs.Utf8.{well_formed}
use Rattle.reader.specs.Reader.{Reader}
use Rattle.reader.specs.Text.{string, encode_string}
use Rattle.reader.specs.TextLaws.{string_codes, string_same}
use Rattle.reader.specs.ReaderLaws.{Stands, Codes, list_codes}
use Rattle.reader.proofs.ReadLaws.{read_inside, stands_slice}
use Rattle.sheet.specs.Module.{coroutine, type_at, is_struct, Module}
use Rattle.sheet.specs.Decode.{type_def}
use Rattle.sheet.specs.Encode.{encode_type}
use Rattle.sheet.specs.Coded.{coded_type}
use Rattle.sheet.proofs.TypeCodes.{type_codes}
use Rattle.open_layout.specs.LayoutLaws.{Located}
use Rattle.open_layout.specs.declared.Layout.{Layout}
use Rattle.open_index.specs.declared.Part.TheVariants.{Strings, Types}
use Rattle.open_index.specs.Index.{edges_of, member_of}
use Rattle.open_index.specs.IndexLaws.{Indexed, list_begins}
use Rattle.open_index.specs.SheetIndex.{strings_indexed, types_indexed}
use Rattle.canon.specs.Canon.{canon_string, same_type, canon_type}
use Rattle.sorting.specs.Items.{item, Rising}
use Rattle.open_canon.specs.Numbers.{items, number, canonical, own_by}
use Rattle.open_canon.specs.Least.{items_length, items_at}

-- ── any part ──

-- a member has a word or more
abbrev Some : {A : Type 0} → (A → List ℕ) → Type 0
Some {A} enc = (a : A) → 0 < length (enc a)

module _ {A : Type 0} (d : A) (ws : List ℕ) (f : Reader A) (enc : A → List ℕ) (ok : A → Bool) (codes : Codes ws f enc ok) (some : Some enc)
    (at : ℕ) (xs : List A) (es : List ℕ) (x : Indexed f ws at xs es) where
  stands_here : (i : ℕ) → i < length xs → Stands ws (get_or es i 0) (enc (get_or xs i d)) (get_or es (i + 1) 0)
  stands_here i h = rw (add-one i) (codes.found (get_or es i 0) (get_or xs i d) (get_or es (suc i) 0) (x.member i d h)).stands

  ends_here : (i : ℕ) → i < length xs → get_or es (i + 1) 0 ≤ length ws
  ends_here i h = rw (add-one i) (read_inside ws f enc ok codes (get_or es i 0) (get_or xs i d) (get_or es (suc i) 0) (x.member i d h)
      (some (get_or xs i d)))

  -- item i is member i's words
  pub item_coded : (i : ℕ) → i < length xs → item ws es i ≡ enc (get_or xs i d)
  unfolding item
  item_coded i h = stands_slice ws (get_or es i 0) (get_or es (i + 1) 0) (enc (get_or xs i d)) (stands_here i h) (ends_here i h)

  coded_at : (i : ℕ) → i < length xs → get_or (map enc xs) i [] ≡ enc (get_or xs i d)
  coded_at i h = go xs i h
    where
      go : (ys : List A) (i : ℕ) → i < length ys → get_or (map enc ys) i [] ≡ enc (get_or ys i d)
      go [] i h = absurd (omega arith)
      go (y ∷ ys) zero h = refl
      go (y ∷ ys) (suc i) h = go ys i (omega arith)

  pub items_coded : items ws es (length xs) ≡ map enc xs
  items_coded =
      ext_get_or [] (items ws es (length xs)) (map enc xs) (items_length ws es (length xs) ∙ sym (length-map xs enc)) λ i h.
      let k : i < length xs = omega (arith, items_length ws es (length xs)) in
      items_at ws es (length xs) i k ∙ item_coded i k ∙ sym (coded_at i k)

  -- the numbers by members' words
  pub numbers_coded : (own : List ℕ → Bool) (canon : ℕ → ℕ) →
      ((i : ℕ) → i < length xs → cond (own (enc (get_or xs i d))) i (first_at (λ y. same (enc (get_or xs i d)) (enc y)) xs) ≡ canon i) →
      canonical own (items ws es (length xs)) ≡ map canon (from 0 (length xs))
  unfolding canonical
  numbers_coded own canon h =
      ap (canonical own) items_coded
      ∙ ap (λ n. map (number own (map enc xs)) (from 0 n)) (length-map xs enc)
      ∙ map_agree (number own (map enc xs)) canon 0 (length xs) λ i a b. each i (omega arith)
    where
      each : (i : ℕ) → i < length xs → number own (map enc xs) i ≡ canon i
      each i k = rw (coded_at i k) (ap (cond (own (enc (get_or xs i d))) i) (first_map (same (enc (get_or xs i d))) enc xs) ∙ h i k)

  -- the edges rise, and none is past the words
  pub edges_rising : get_or es 0 0 ≤ length ws → Rising ws es (length xs)
  edges_rising b = record { rising = λ i h. omega (arith, (stands_here i h).end); within = within }
    where
      within : (i : ℕ) → i ≤ length xs → get_or es i 0 ≤ length ws
      within zero h = b
      within (suc i) h = rw (← add-one i) (ends_here i (omega arith))

-- ── an intact sheet ──

module _ (ws : List ℕ) (m : Module) (l : Layout) (x : Located ws m l) where
  -- THE TYPES' NUMBERS OVER THE INDEX ARE RULE 1'S
  pub types_numbered : canonical (own_by true) (items ws (edges_of Types ws l.types) (length m.types)) ≡ map (canon_type m.types)
      (from 0 (length m.types))
  types_numbered =
      numbers_coded coroutine ws type_def encode_type coded_type (type_codes ws) (λ d. unfold encode_type in omega arith)
      l.types m.types (edges_of Types ws l.types) (types_indexed ws m l x) (own_by true) (canon_type m.types)
      λ i h. unfold canon_type same_type encode_type type_at is_struct in refl

  pub types_rising : Rising ws (edges_of Types ws l.types) (length m.types)
  types_rising =
      edges_rising coroutine ws type_def encode_type coded_type (type_codes ws) (λ d. unfold encode_type in omega arith)
      l.types m.types (edges_of Types ws l.types) (types_indexed ws m l x)
      (unfold edges_of member_of in list_begins type_def ws l.types m.types l.consts x.types)

  module _ (w : all_of is_word ws ≡ true) where
    -- THE STRINGS' NUMBERS OVER THE INDEX ARE RULE 1'S
    pub strings_numbered : canonical (own_by false) (items ws (edges_of Strings ws l.strings) (length m.strings)) ≡ map
        (canon_string m.strings) (from 0 (length m.strings))
    strings_numbered =
        numbers_coded [] ws string encode_string well_formed (string_codes ws w) (λ s. unfold encode_string in omega arith)
        l.strings m.strings (edges_of Strings ws l.strings) (strings_indexed ws m l x) (own_by false) (canon_string m.strings)
        λ i h. unfold canon_string in
        first_agree (λ y. same (encode_string (get_or m.strings i [])) (encode_string y)) (same (get_or m.strings i [])) [] m.strings λ j k.
        string_same (get_or m.strings i []) (get_or m.strings j []) (all_at well_formed m.strings i [] good h)
        (all_at well_formed m.strings j [] good k)
      where
        good : all_of well_formed m.strings ≡ true
        good = ((list_codes ws string encode_string well_formed (string_codes ws w)).found l.strings m.strings l.types x.strings).fine

    pub strings_rising : Rising ws (edges_of Strings ws l.strings) (length m.strings)
    strings_rising =
        edges_rising [] ws string encode_string well_formed (string_codes ws w) (λ s. unfold encode_string in omega arith)
        l.strings m.strings (edges_of Strings ws l.strings) (strings_indexed ws m l x)
        (unfold edges_of member_of in list_begins string ws l.strings m.strings l.types x.strings)
