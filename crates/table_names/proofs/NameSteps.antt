-- The names of a struct: gathered, sorted and written.
use Prim.Native.Nat.{ℕ, ◌+◌, ◌*◌, ◌≤◌, ◌<◌, min}
use mathlib.Core.Path.{◌≡◌, refl, sym, ap, ◌∙◌}
use mathlib.Core.List.{List, []}
use native.Mathlib.Omega.{arith}
use lib.ListN.{length, get_or}
use Rattle.blocks.specs.Blocks.{words}
use Rattle.blocks.specs.Frame.{first_words}
use Rattle.reader.specs.Reader.{list_of, encode_list}
use Rattle.reader.specs.Value.{Whole, value_of}
use Rattle.sheet.specs.Module.{Field, Method, Module}
use Rattle.sheet.specs.Decode.{field_of, method_of}
use Rattle.sheet.specs.Encode.{encode_pair}
use Rattle.region.specs.Region.{Frame}
use Rattle.region.specs.RegionLaws.{frame_then}
use Rattle.writing.specs.Writing.{written}
use Rattle.open_sheet.specs.declared.Opened.{Opened}
use Rattle.open_sheet.specs.Ready.{Ready}
use Rattle.table.specs.Records.{by_name}
use Rattle.table_name_sort.specs.Merge.{pairs_at}
use Rattle.table_name_sort.specs.Steps.{Room, Gathered}
use Rattle.table_names.specs.Names.{named_fields, slot_pairs, method_pairs, field_list, method_list, pair_words}
use Rattle.table_names.proofs.Members.{fields_stand, methods_stand, named_length}
use Rattle.table_names.proofs.GatherSteps.{slots_length, methods_length}

-- ── how many ──

pub named_count : (b : List ℕ) (n at : ℕ) {w r : ℕ} → Whole (list_of field_of (first_words b n) at) → w ≡ get_or (words b) at 0 → r ≡ min 65536 w →
    r ≡ length (named_fields (value_of [] (list_of field_of (first_words b n) at)))
named_count b n at h e g =
    g ∙ ap (min 65536) (e ∙ (fields_stand b n at h).count) ∙ sym (named_length (value_of [] (list_of field_of (first_words b n) at)))

pub method_count : (b : List ℕ) (n at : ℕ) {w : ℕ} → Whole (list_of method_of (first_words b n) at) → w ≡ get_or (words b) at 0 → w ≡ length (value_of [] (list_of method_of (first_words b n) at))
method_count b n at h e = e ∙ (methods_stand b n at h).count

-- ── room for pairs and scratch ──

free_room : (v : List ℕ) (n count : ℕ) → 64 + 8 * n ≤ length v → 2 * count ≤ n → Room v (6 * n) count (7 * n)
free_room v n count h l = record { a_in = omega arith; b_in = omega arith; a_b = λ k x y z u. omega arith }

module _ (b w v : List ℕ) (o : Opened) (at count : ℕ) (xs : List (ℕ × ℕ)) (x : Ready (first_words b o.layout.words) w o) (g : Gathered w v (6 * o.layout.words) xs) where
  pub fields_room : Whole (list_of field_of (first_words b o.layout.words) at) → count ≡ length (named_fields (value_of [] (list_of field_of (first_words b o.layout.words) at))) →
      Room v (6 * o.layout.words) count (7 * o.layout.words)
  fields_room h c =
      free_room v o.layout.words count (omega (arith, x.room, g.frame.len))
      (omega (arith, (fields_stand b o.layout.words at h).fit, named_length (value_of [] (list_of field_of (first_words b o.layout.words) at))))

  pub methods_room : Whole (list_of method_of (first_words b o.layout.words) at) → count ≡ length (value_of [] (list_of method_of (first_words b o.layout.words) at)) →
      Room v (6 * o.layout.words) count (7 * o.layout.words)
  methods_room h c =
      free_room v o.layout.words count (omega (arith, x.room, g.frame.len)) (omega (arith, (methods_stand b o.layout.words at h).fit))

-- ── what is written ──

pub field_list_lem : (m : Module) (fs : List Field) (count : ℕ) → count ≡ length (named_fields fs) → (count ≡ length (slot_pairs m (named_fields fs))) × (field_list m fs ≡ by_name (slot_pairs m (named_fields fs)))
unfolding field_list
field_list_lem m fs count c = (c ∙ sym (slots_length m (named_fields fs)), refl)

pub method_list_lem : (m : Module) (ms : List Method) (count : ℕ) → count ≡ length ms → (count ≡ length (method_pairs m ms)) × (method_list m ms ≡ by_name (method_pairs m ms))
unfolding method_list
method_list_lem m ms count c = (c ∙ sym (methods_length m ms), refl)

module _ (w v : List ℕ) (base count : ℕ) (xs ys : List (ℕ × ℕ)) (g : Gathered w v base xs) (c : (count ≡ length xs) × (ys ≡ by_name xs)) where
  names_are : by_name (pairs_at v base count) ≡ ys
  names_are = ap (λ k. by_name (pairs_at v base k)) c.0 ∙ ap by_name g.pairs ∙ sym c.1

  words_are : pair_words (by_name (pairs_at v base count)) ≡ encode_list encode_pair ys
  unfolding pair_words
  words_are = ap (encode_list encode_pair) names_are

  pub names_room : (end at : ℕ) → at + length (encode_list encode_pair ys) ≤ end → at + length (pair_words (by_name (pairs_at v base count))) ≤ end
  names_room end at h = omega (arith, ap length words_are)

  pub names_written : (t u : List ℕ) (at : ℕ) → u ≡ written t at (pair_words (by_name (pairs_at v base count))) → u ≡ written t at (encode_list encode_pair ys)
  names_written t u at e = e ∙ ap (written t at) words_are

  pub names_place : (at r : ℕ) → r ≡ at + length (pair_words (by_name (pairs_at v base count))) → r ≡ at + length (encode_list encode_pair ys)
  names_place at r e = e ∙ ap (λ l. at + length l) words_are

  pub names_frame : (u : List ℕ) → Frame (λ k. k < base) v u → Frame (λ k. k < base) w u
  names_frame u f = frame_then (λ k. k < base) (λ k. k < base) (λ k. k < base) w v u (λ k l. l) (λ k l. l) g.frame f
