-- Names and their values gathered in the free words: one pair, the loops.
use Prim.Native.Nat.{ℕ, zero, suc, ◌+◌, ◌*◌, ◌≤◌, ◌<◌}
use mathlib.Core.Path.{◌≡◌, refl, sym, ap, ap₂, ◌∙◌}
use mathlib.Core.List.{List, [], ◌∷◌, ◌++◌}
use native.Mathlib.Omega.{arith}
use native.Mathlib.Numerals.{add-one}
use lib.ListN.{length, get_or, set, take, length-set, length-map}
use lib.Seq.{get_or-set_same, get_or-set_other, take-suc, take-length}
use Rattle.lists.specs.Lists.{map_from}
use Rattle.lists.specs.ListLaws.{length_map_from, map_at}
use Rattle.blocks.specs.Blocks.{words}
use Rattle.blocks.specs.Frame.{first_words}
use Rattle.reader.specs.Reader.{list_of}
use Rattle.reader.specs.Value.{Whole, value_of}
use Rattle.sheet.specs.Module.{Field, Method, Module}
use Rattle.sheet.specs.Decode.{field_of, method_of}
use Rattle.canon.specs.Canon.{canon_string}
use Rattle.open_layout.specs.Opened.{module_in}
use Rattle.region.specs.Region.{Off, Frame}
use Rattle.region.specs.RegionLaws.{frame_refl, frame_then}
use Rattle.open_sheet.specs.declared.Opened.{Opened}
use Rattle.open_sheet.specs.Ready.{Ready, pos_at}
use Rattle.open_sheet.specs.ReadyLaws.{strings_inside, ready_below, string_canon}
use Rattle.table_name_sort.specs.Merge.{pairs_at}
use Rattle.table_name_sort.specs.PairLaws.{pairs_kept, pairs_more}
use Rattle.table_name_sort.specs.Steps.{Paired, Gathered}
use Rattle.table_names.specs.Names.{named_fields, slot_pairs, method_pairs, name_faults, methods_faults}
use Rattle.table_names.proofs.Members.{Twos, no_field, no_method, fields_stand, methods_stand, named_length, field_word, field_in, method_word, method_func, method_in}

-- ── one pair ──

module _ (ws w : List ℕ) (o : Opened) (x : Ready ws w o) (s : ℕ) (h : s < length (module_in ws).strings) where
  -- the canonical number's word is there
  pub canon_room : o.layout.words + s < length w
  canon_room = omega (arith, x.room, strings_inside ws w o x)

  pub put_pair : (u v : List ℕ) (to name value : ℕ) → name ≡ pos_at w o.layout.words s → to + 1 < length w → u ≡ set w to name → v ≡ set u (to + 1) value →
      Paired w v to (canon_string (module_in ws).strings s) value
  put_pair u v to name value e l f g =
      let lu : length u ≡ length w = ap length f ∙ length-set w to name in record {
        frame = record {
          len = ap length g ∙ length-set u (to + 1) value ∙ lu;
          same = λ k p.
              ap (λ y. get_or y k 0) g
              ∙ get_or-set_other u (to + 1) k value 0 (λ z. p (omega arith) (omega arith))
              ∙ ap (λ y. get_or y k 0) f
              ∙ get_or-set_other w to k name 0 (λ z. p (omega arith) (omega arith));
        };
        name =
            ap (λ y. get_or y to 0) g
            ∙ get_or-set_other u (to + 1) to value 0 (omega arith)
            ∙ ap (λ y. get_or y to 0) f
            ∙ get_or-set_same w to name 0 (omega arith)
            ∙ e
            ∙ string_canon ws w o x s h;
        value = ap (λ y. get_or y (to + 1) 0) g ∙ get_or-set_same u (to + 1) value 0 (omega arith);
      }

-- ── the loops ──

-- the first i of xs are written from base on
pub record Gathers (w v : List ℕ) (base : ℕ) (xs : List (ℕ × ℕ)) (i : ℕ) : Type 0 where
  pub frame : Frame (λ k. k < base) w v
  pub few : i ≤ length xs
  pub pairs : pairs_at v base i ≡ take i xs

pub gathers_start : (w : List ℕ) (base : ℕ) (xs : List (ℕ × ℕ)) → Gathers w w base xs 0
gathers_start w base xs = record { frame = frame_refl (λ k. k < base) w; few = omega arith; pairs = unfold pairs_at in refl }

gathers_next : (w v u : List ℕ) (base : ℕ) (xs : List (ℕ × ℕ)) (i x y : ℕ) → Gathers w v base xs i → i < length xs → get_or xs i (0, 0) ≡ (x, y) → Paired v u (base + 2 * i) x y →
    Gathers w u base xs (i + 1)
gathers_next w v u base xs i x y s h e p = record {
  frame = frame_then (λ k. k < base) (Off (base + 2 * i) (base + 2 * i + 2)) (λ k. k < base) w v u (λ k l. l) (λ k l a b. omega arith) s.frame p.frame;
  few = omega arith;
  pairs =
      pairs_more u base i
      ∙ ap₂ (λ l z. l ++ (z ∷ []))
      (pairs_kept (Off (base + 2 * i) (base + 2 * i + 2)) v u p.frame base i (λ k a b c d. omega arith) ∙ s.pairs)
      (ap₂ (λ a b. (a, b)) p.name p.value ∙ sym e)
      ∙ sym (take-suc xs i (0, 0) h)
      ∙ ap (λ k. take k xs) (sym (add-one i));
}

gathers_end : (w v : List ℕ) (base : ℕ) (xs : List (ℕ × ℕ)) (i : ℕ) → Gathers w v base xs i → length xs ≤ i → Gathered w v base xs
gathers_end w v base xs i s h =
    let z : i ≡ length xs = omega (arith, s.few) in
    record { frame = s.frame; pairs = ap (pairs_at v base) (sym z) ∙ s.pairs ∙ ap (λ k. take k xs) z ∙ take-length xs }

-- ── fields ──

map_from_at_lem : {A B : Type 0} (f : ℕ → A → B) (k : ℕ) (xs : List A) (i : ℕ) (a : A) (b : B) → i < length xs → get_or (map_from k f xs) i b ≡ f (k + i) (get_or xs i a)
map_from_at_lem f k [] i a b h = absurd (omega arith)
map_from_at_lem f k (x ∷ xs) zero a b h = let e : k ≡ k + 0 = omega arith in ap (λ n. f n x) e
map_from_at_lem f k (x ∷ xs) (suc i) a b h =
    let e : suc k + i ≡ k + suc i = omega arith in
    map_from_at_lem f (suc k) xs i a b (omega arith) ∙ ap (λ n. f n (get_or xs i a)) e

pub slots_length : (m : Module) (fs : List Field) → length (slot_pairs m fs) ≡ length fs
unfolding slot_pairs
slots_length m fs = length_map_from (λ slot f. (canon_string m.strings f.name, slot)) 0 fs

slots_at : (m : Module) (fs : List Field) (i : ℕ) → i < length fs → get_or (slot_pairs m fs) i (0, 0) ≡ (canon_string m.strings (get_or fs i no_field).name, i)
unfolding slot_pairs
slots_at m fs i h =
    let e : 0 + i ≡ i = omega arith in
    map_from_at_lem (λ slot f. (canon_string m.strings f.name, slot)) 0 fs i no_field (0, 0) h ∙ ap (λ k. (canon_string m.strings (get_or fs i no_field).name, k)) e

pub methods_length : (m : Module) (ms : List Method) → length (method_pairs m ms) ≡ length ms
unfolding method_pairs
methods_length m ms = length-map ms (λ x. (canon_string m.strings x.name, x.func))

methods_at : (m : Module) (ms : List Method) (i : ℕ) → i < length ms → get_or (method_pairs m ms) i (0, 0) ≡ (canon_string m.strings (get_or ms i no_method).name, (get_or ms i no_method).func)
unfolding method_pairs
methods_at m ms i h = map_at (λ x. (canon_string m.strings x.name, x.func)) no_method (0, 0) ms i h

module _ (ws w v : List ℕ) (o : Opened) (x : Ready ws w o) (f : Frame (λ k. k < 6 * o.layout.words) w v) where
  pub still_ready : Ready ws v o
  still_ready = ready_below ws w o x v (record { len = f.len; same = λ k h. f.same k (omega arith) })

module _ (b w v : List ℕ) (o : Opened) (at count i : ℕ) (x : Ready (first_words b o.layout.words) w o)
    (h : Whole (list_of field_of (first_words b o.layout.words) at))
    (c : count ≡ length (named_fields (value_of [] (list_of field_of (first_words b o.layout.words) at))))
    (s : Gathers w v (6 * o.layout.words) (slot_pairs (module_in (first_words b o.layout.words)) (named_fields (value_of [] (list_of field_of (first_words b o.layout.words) at)))) i) where
  pub fields_fit : (at + 1 + 2 * count ≤ o.layout.words) × (count ≤ 65536) × (64 + 8 * o.layout.words ≤ length v)
  fields_fit = (
    omega (arith, (fields_stand b o.layout.words at h).fit, named_length (value_of [] (list_of field_of (first_words b o.layout.words) at))),
    omega (arith, named_length (value_of [] (list_of field_of (first_words b o.layout.words) at))),
    omega (arith, x.room, s.frame.len),
  )

  pub fields_turn : name_faults (module_in (first_words b o.layout.words)) (value_of [] (list_of field_of (first_words b o.layout.words) at)) ≡ [] → i < count →
      get_or (words b) (at + 1 + 2 * i) 0 < length (module_in (first_words b o.layout.words)).strings
  fields_turn e l =
      field_in b o.layout.words at (value_of [] (list_of field_of (first_words b o.layout.words) at)) (fields_stand b o.layout.words at h) i (omega arith) (module_in (first_words b o.layout.words)) e

  pub fields_next : (u : List ℕ) → i < count →
      Paired v u (6 * o.layout.words + 2 * i) (canon_string (module_in (first_words b o.layout.words)).strings (get_or (words b) (at + 1 + 2 * i) 0)) i →
      Gathers w u (6 * o.layout.words) (slot_pairs (module_in (first_words b o.layout.words)) (named_fields (value_of [] (list_of field_of (first_words b o.layout.words) at)))) (i + 1)
  fields_next u l p =
      let m = module_in (first_words b o.layout.words) in
      let fs = value_of [] (list_of field_of (first_words b o.layout.words) at) in
      gathers_next w v u (6 * o.layout.words) (slot_pairs m (named_fields fs)) i _ i s (omega (arith, slots_length m (named_fields fs)))
      (slots_at m (named_fields fs) i (omega arith)
      ∙ ap (λ k. (canon_string m.strings k, i)) (sym (field_word b o.layout.words at fs (fields_stand b o.layout.words at h) i (omega arith)))) p

  pub fields_end : count ≤ i → Gathered w v (6 * o.layout.words) (slot_pairs (module_in (first_words b o.layout.words)) (named_fields (value_of [] (list_of field_of (first_words b o.layout.words) at))))
  fields_end l =
      gathers_end w v (6 * o.layout.words) (slot_pairs (module_in (first_words b o.layout.words)) (named_fields (value_of [] (list_of field_of (first_words b o.layout.words) at)))) i s
      (omega (arith, slots_length (module_in (first_words b o.layout.words)) (named_fields (value_of [] (list_of field_of (first_words b o.layout.words) at)))))

-- ── methods ──

module _ (b w v : List ℕ) (o : Opened) (at count i : ℕ) (x : Ready (first_words b o.layout.words) w o)
    (h : Whole (list_of method_of (first_words b o.layout.words) at))
    (c : count ≡ length (value_of [] (list_of method_of (first_words b o.layout.words) at)))
    (s : Gathers w v (6 * o.layout.words) (method_pairs (module_in (first_words b o.layout.words)) (value_of [] (list_of method_of (first_words b o.layout.words) at))) i) where
  pub methods_fit : (at + 1 + 2 * count ≤ o.layout.words) × (64 + 8 * o.layout.words ≤ length v)
  methods_fit = (omega (arith, (methods_stand b o.layout.words at h).fit), omega (arith, x.room, s.frame.len))

  pub methods_turn : methods_faults (module_in (first_words b o.layout.words)) (value_of [] (list_of method_of (first_words b o.layout.words) at)) ≡ [] → i < count →
      get_or (words b) (at + 1 + 2 * i) 0 < length (module_in (first_words b o.layout.words)).strings
  methods_turn e l =
      method_in b o.layout.words at (value_of [] (list_of method_of (first_words b o.layout.words) at)) (methods_stand b o.layout.words at h) i (omega arith) (module_in (first_words b o.layout.words)) e

  pub methods_next : (u : List ℕ) {k : ℕ} → i < count → k ≡ get_or (words b) (at + 1 + 2 * i + 1) 0 →
      Paired v u (6 * o.layout.words + 2 * i) (canon_string (module_in (first_words b o.layout.words)).strings (get_or (words b) (at + 1 + 2 * i) 0)) k →
      Gathers w u (6 * o.layout.words) (method_pairs (module_in (first_words b o.layout.words)) (value_of [] (list_of method_of (first_words b o.layout.words) at))) (i + 1)
  methods_next u {k} l e p =
      let m = module_in (first_words b o.layout.words) in
      let ms = value_of [] (list_of method_of (first_words b o.layout.words) at) in
      let t : Twos _ b o.layout.words at ms = methods_stand b o.layout.words at h in
      gathers_next w v u (6 * o.layout.words) (method_pairs m ms) i _ k s (omega (arith, methods_length m ms))
      (methods_at m ms i (omega arith)
      ∙ ap₂ (λ y z. (canon_string m.strings y, z)) (sym (method_word b o.layout.words at ms t i (omega arith))) (sym (e ∙ method_func b o.layout.words at ms t i (omega arith)))) p

  pub methods_end : count ≤ i → Gathered w v (6 * o.layout.words) (method_pairs (module_in (first_words b o.layout.words)) (value_of [] (list_of method_of (first_words b o.layout.words) at)))
  methods_end l =
      gathers_end w v (6 * o.layout.words) (method_pairs (module_in (first_words b o.layout.words)) (value_of [] (list_of method_of (first_words b o.layout.words) at))) i s
      (omega (arith, methods_length (module_in (first_words b o.layout.words)) (value_of [] (list_of method_of (first_words b o.layout.words) at))))
