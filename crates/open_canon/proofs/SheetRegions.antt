-- For callers: the index as regions, and what the numbers of a sheet's strings and types are after the call.
use Rattle.std.specs.Prelude.{ℕ, ◌+◌, ◌≤◌, ◌<◌, ◌≡◌, refl, List, ◌++◌, map, true, false, length, get_or}
use Rattle.std.proofs.Common.{sym, ap, ◌∙◌, arith, length-append}
use Rattle.std.proofs.Math.Nat.{zero-add}
use Rattle.std.proofs.Math.ListN.{get_or-append}
use Rattle.std.proofs.Math.Seq.{paste}
use Rattle.lists.specs.Lists.{all_of, from}
use Rattle.lists.specs.ListLaws.{get_d_map_from}
use Rattle.blocks.specs.ByteLaws.{is_word}
use Rattle.sheet.specs.Module.{Module}
use Rattle.open_layout.specs.LayoutLaws.{Located}
use Rattle.open_layout.specs.declared.Layout.{Layout}
use Rattle.open_index.specs.declared.Part.TheVariants.{Strings, Types, Consts, Imports, Funcs}
use Rattle.open_index.specs.Index.{edges_of, index, index_of}
use Rattle.open_index.specs.SheetIndex.{strings_indexed, types_indexed}
use Rattle.canon.specs.Canon.{canon_string, canon_type}
use Rattle.region.specs.Region.{part}
use Rattle.region.specs.RegionLaws.{part_at, part_is, part_front, part_after, part_paste}
use Rattle.sorting.specs.Items.{Rising}
use Rattle.open_canon.specs.Numbers.{items, canonical, own_by}
use Rattle.open_canon.specs.Contract.{Regions, Numbered}
use Rattle.open_canon.specs.SheetNumbers.{types_numbered, strings_numbered}

-- four regions one after the other meet what the call asks
pub regions_of : (ws w : List ℕ) (n s a b c : ℕ) → Rising ws (part s (n + 1) w) n → n ≤ 4294967296 → s + (n + 1) ≤ a → a + n ≤ b →
    b + n ≤ c → c + n ≤ length w →
    Regions ws w n s a b c
regions_of ws w n s a b c g h sa ab bc cw = record {
  good = g;
  small = h;
  s_in = omega arith;
  a_in = omega arith;
  b_in = omega arith;
  c_in = cw;
  s_a = λ k p q r t. omega arith;
  s_b = λ k p q r t. omega arith;
  s_c = λ k p q r t. omega arith;
  a_b = λ k p q r t. omega arith;
  a_c = λ k p q r t. omega arith;
  b_c = λ k p q r t. omega arith;
}

-- word i of a region that holds what f makes of each number
region_at : (f : ℕ → ℕ) (v : List ℕ) (c n i : ℕ) → part c n v ≡ map f (from 0 n) → i < n → get_or v (c + i) 0 ≡ f i
region_at f v c n i e h = sym (part_at c n v i h) ∙ ap (λ l. get_or l i 0) e ∙ get_d_map_from f 0 0 n i h ∙ ap f (zero-add i)

-- regions of five lists side by side, written from place 0 on
module _ (s₁ s₂ s₃ s₄ s₅ w : List ℕ) where
  lengths : length (s₁ ++ s₂ ++ s₃ ++ s₄ ++ s₅) ≡ length (s₁ ++ s₂) + length s₃ + length s₄ + length s₅
  lengths = omega (arith, length-append (s₁ ++ s₂) s₃, length-append (s₁ ++ s₂ ++ s₃) s₄, length-append (s₁ ++ s₂ ++ s₃ ++ s₄) s₅)

  -- of the first two
  front : (at n : ℕ) → at + n ≤ length (s₁ ++ s₂) → part at n
      (paste w 0 (s₁ ++ s₂ ++ s₃ ++ s₄ ++ s₅) (length (s₁ ++ s₂ ++ s₃ ++ s₄ ++ s₅))) ≡ part at n (s₁ ++ s₂)
  front at n h =
      part_paste at n w (s₁ ++ s₂ ++ s₃ ++ s₄ ++ s₅) (omega (arith, lengths))
      ∙ part_front at n (s₁ ++ s₂ ++ s₃ ++ s₄) s₅ (omega (arith, length-append (s₁ ++ s₂) s₃, length-append (s₁ ++ s₂ ++ s₃) s₄))
      ∙ part_front at n (s₁ ++ s₂ ++ s₃) s₄ (omega (arith, length-append (s₁ ++ s₂) s₃))
      ∙ part_front at n (s₁ ++ s₂) s₃ h

  first_region : part 0 (length s₁) (paste w 0 (s₁ ++ s₂ ++ s₃ ++ s₄ ++ s₅) (length (s₁ ++ s₂ ++ s₃ ++ s₄ ++ s₅))) ≡ s₁
  first_region =
      front 0 (length s₁) (omega (arith, length-append s₁ s₂))
      ∙ part_is 0 (length s₁) (s₁ ++ s₂) s₁ (omega (arith, length-append s₁ s₂)) refl λ i k.
      ap (λ j. get_or (s₁ ++ s₂) j 0) (zero-add i) ∙ get_or-append s₁ s₂ 0 i k

  second_region : part (length s₁) (length s₂) (paste w 0 (s₁ ++ s₂ ++ s₃ ++ s₄ ++ s₅) (length (s₁ ++ s₂ ++ s₃ ++ s₄ ++ s₅))) ≡ s₂
  second_region = front (length s₁) (length s₂) (omega (arith, length-append s₁ s₂)) ∙ part_after s₁ s₂

module _ (ws : List ℕ) (m : Module) (l : Layout) (x : Located ws m l) where
  -- ── the edges in the index, written from word 0 on ──

  pub strings_region : (w : List ℕ) → part (index_of ws l).strings (length m.strings + 1)
      (paste w 0 (index ws l) (length (index ws l))) ≡ edges_of Strings ws l.strings
  unfolding index index_of
  strings_region w =
      rw (← (strings_indexed ws m l x).count)
      (first_region (edges_of Strings ws l.strings) (edges_of Types ws l.types) (edges_of Consts ws l.consts)
      (edges_of Imports ws l.imports) (edges_of Funcs ws l.funcs) w)

  pub types_region : (w : List ℕ) → part (index_of ws l).types (length m.types + 1)
      (paste w 0 (index ws l) (length (index ws l))) ≡ edges_of Types ws l.types
  unfolding index index_of
  types_region w =
      rw (← (types_indexed ws m l x).count, zero-add (length (edges_of Strings ws l.strings)))
      (second_region (edges_of Strings ws l.strings) (edges_of Types ws l.types) (edges_of Consts ws l.consts)
      (edges_of Imports ws l.imports) (edges_of Funcs ws l.funcs) w)

  -- ── after the call ──

  module _ (w v : List ℕ) (s a b c : ℕ) where
    pub types_written : part s (length m.types + 1) w ≡ edges_of Types ws l.types → Numbered ws w v (length m.types) s a b c true →
        part c (length m.types) v ≡ map (canon_type m.types) (from 0 (length m.types))
    types_written e r = r.numbers ∙ ap (λ es. canonical (own_by true) (items ws es (length m.types))) e ∙ types_numbered ws m l x

    -- word t of the result is type t's canonical number
    pub type_number_lem : part s (length m.types + 1) w ≡ edges_of Types ws l.types → Numbered ws w v (length m.types) s a b c true →
        (t : ℕ) → t < length m.types → get_or v (c + t) 0 ≡ canon_type m.types t
    type_number_lem e r t h = region_at (canon_type m.types) v c (length m.types) t (types_written e r) h

    pub strings_written : all_of is_word ws ≡ true → part s (length m.strings + 1) w ≡ edges_of Strings ws l.strings →
        Numbered ws w v (length m.strings) s a b c false →
        part c (length m.strings) v ≡ map (canon_string m.strings) (from 0 (length m.strings))
    strings_written k e r = r.numbers ∙ ap (λ es. canonical (own_by false) (items ws es (length m.strings))) e ∙ strings_numbered ws m l x k

    pub string_number_lem : all_of is_word ws ≡ true → part s (length m.strings + 1) w ≡ edges_of Strings ws l.strings →
        Numbered ws w v (length m.strings) s a b c false →
        (t : ℕ) → t < length m.strings → get_or v (c + t) 0 ≡ canon_string m.strings t
    string_number_lem k e r t h = region_at (canon_string m.strings) v c (length m.strings) t (strings_written k e r) h
