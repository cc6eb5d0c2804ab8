-- What is known of a sheet that is ready.
use Prim.Native.Nat.{ℕ, ◌+◌, ◌*◌, ◌≤◌, ◌<◌}
use Rattle.std.specs.Prelude.{◌≡◌, List, length, get_or}
use Rattle.std.proofs.Math.Path.{ap}
use Rattle.std.proofs.Common.{◌∙◌}
use native.Mathlib.Omega.{arith}
use Rattle.reader.specs.Reader.{got, Reader}
use Rattle.reader.specs.Text.{string}
use Rattle.reader.specs.Value.{Whole, value_of}
use Rattle.reader.specs.ValueLaws.{got_whole, value_got}
use Rattle.sheet.specs.Module.{coroutine, type_at}
use Rattle.sheet.specs.Decode.{type_def, const_of, import_of, function_of}
use Rattle.sheet.specs.Editions.{most_on_chain, most_of}
use Rattle.open_layout.specs.Opened.{module_in}
use Rattle.open_index.specs.declared.Index.{Index}
use Rattle.open_index.specs.Index.{index_of}
use Rattle.open_index.specs.SheetIndex.{strings_indexed, types_indexed, consts_indexed, imports_indexed, funcs_indexed}
use Rattle.canon.specs.Canon.{canon_string, canon_type}
use Rattle.region.specs.Region.{Frame}
use Rattle.region.specs.RegionLaws.{frame_refl, frame_then}
use Rattle.open_sheet.specs.declared.Counts.{Counts}
use Rattle.open_sheet.specs.declared.Opened.{Opened}
use Rattle.open_sheet.specs.Ready.{counts_of, Opens, Entries, Ready, Captured, Kept, Above, pos_at}

-- ── counts ──

module _ (ws : List ℕ) (o : Opened) (x : Opens ws o) where
  pub count_strings : o.counts.strings ≡ length (module_in ws).strings
  unfolding counts_of
  count_strings = ap (λ (c : Counts). c.strings) x.counts

  pub count_types : o.counts.types ≡ length (module_in ws).types
  unfolding counts_of
  count_types = ap (λ (c : Counts). c.types) x.counts

  pub count_consts : o.counts.consts ≡ length (module_in ws).consts
  unfolding counts_of
  count_consts = ap (λ (c : Counts). c.consts) x.counts

  pub count_imports : o.counts.imports ≡ length (module_in ws).imports
  unfolding counts_of
  count_imports = ap (λ (c : Counts). c.imports) x.counts

  pub count_globals : o.counts.globals ≡ length (module_in ws).globals
  unfolding counts_of
  count_globals = ap (λ (c : Counts). c.globals) x.counts

  pub count_funcs : o.counts.funcs ≡ length (module_in ws).funcs
  unfolding counts_of
  count_funcs = ap (λ (c : Counts). c.funcs) x.counts

-- ── the edition ──

-- the limit that code found by the edition is the module's
pub ready_most : (ws w : List ℕ) (o : Opened) → Ready ws w o → {most : ℕ} → most ≡ most_on_chain o.edition → most ≡ most_of (module_in ws)
ready_most ws w o x e = e ∙ ap most_on_chain x.opens.edition

-- ── members by number ──

pub pos_at_lem : (w : List ℕ) (base i : ℕ) {r : ℕ} → r ≡ get_or w (base + i) 0 → r ≡ pos_at w base i
unfolding pos_at
pos_at_lem w base i e = e

module _ {A : Type 0} (f : Reader A) (ws : List ℕ) (xs : List A) (w : List ℕ) (base : ℕ) (x : Entries f ws xs w base) where
  pub entry_room : (i : ℕ) → i < length xs → base + i < length w
  entry_room i h = omega (arith, x.room)

  pub entry_whole : (d : A) (i : ℕ) → i < length xs → Whole (f ws (pos_at w base i))
  entry_whole d i h = got_whole (x.member i d h)

  pub entry_value : (d : A) (i : ℕ) → i < length xs → value_of d (f ws (pos_at w base i)) ≡ get_or xs i d
  entry_value d i h = value_got d (x.member i d h)

  -- what code read at a place is the member
  pub entry_ends : (d : A) (i : ℕ) → i < length xs → f ws (pos_at w base i) ≡ got (get_or xs i d) (pos_at w base (i + 1))
  entry_ends d i h = x.member i d h

  -- words that were kept hold the same entries
  pub entries_kept : (P : ℕ → Type 0) (v : List ℕ) → Frame P w v → ((i : ℕ) → i ≤ length xs → P (base + i)) → Entries f ws xs v base
  unfolding pos_at
  entries_kept P v k p = record {
    room = omega (arith, x.room, k.len);
    member = λ i d h. rw (k.same (base + i) (p i (omega arith)), k.same (base + (i + 1)) (p (i + 1) (omega arith))) (x.member i d h);
  }

-- ── what a rule may rely on, part by part ──

module _ (ws w : List ℕ) (o : Opened) (x : Ready ws w o) where
  pub types_in : (t : ℕ) → t < o.counts.types → t < length (module_in ws).types
  types_in t h = omega (arith, count_types ws o x.opens)

  pub strings_in : (s : ℕ) → s < o.counts.strings → s < length (module_in ws).strings
  strings_in s h = omega (arith, count_strings ws o x.opens)

  pub consts_in : (c : ℕ) → c < o.counts.consts → c < length (module_in ws).consts
  consts_in c h = omega (arith, count_consts ws o x.opens)

  pub imports_in : (i : ℕ) → i < o.counts.imports → i < length (module_in ws).imports
  imports_in i h = omega (arith, count_imports ws o x.opens)

  pub funcs_in : (f : ℕ) → f < o.counts.funcs → f < length (module_in ws).funcs
  funcs_in f h = omega (arith, count_funcs ws o x.opens)

-- ── each part's edges are inside the index ──

module _ (ws w : List ℕ) (o : Opened) (x : Ready ws w o) where
  -- a part whose edges end before the index does
  inside : (f : Index → ℕ) (n : ℕ) → f (index_of ws o.layout) + n < (index_of ws o.layout).end → f o.index + n < o.layout.words
  inside f n h = omega (arith, x.inside, ap f x.edges, ap (λ (i : Index). i.end) x.edges)

  pub strings_inside : o.index.strings + length (module_in ws).strings < o.layout.words
  unfolding index_of
  strings_inside = inside (λ (i : Index). i.strings) (length (module_in ws).strings) (omega (arith, (strings_indexed ws (module_in ws) o.layout x.opens.located).count))

  pub types_inside : o.index.types + length (module_in ws).types < o.layout.words
  unfolding index_of
  types_inside = inside (λ (i : Index). i.types) (length (module_in ws).types) (omega (arith, (types_indexed ws (module_in ws) o.layout x.opens.located).count))

  pub consts_inside : o.index.consts + length (module_in ws).consts < o.layout.words
  unfolding index_of
  consts_inside = inside (λ (i : Index). i.consts) (length (module_in ws).consts) (omega (arith, (consts_indexed ws (module_in ws) o.layout x.opens.located).count))

  pub imports_inside : o.index.imports + length (module_in ws).imports < o.layout.words
  unfolding index_of
  imports_inside = inside (λ (i : Index). i.imports) (length (module_in ws).imports) (omega (arith, (imports_indexed ws (module_in ws) o.layout x.opens.located).count))

  pub funcs_inside : o.index.funcs + length (module_in ws).funcs < o.layout.words
  unfolding index_of
  funcs_inside = inside (λ (i : Index). i.funcs) (length (module_in ws).funcs) (omega (arith, (funcs_indexed ws (module_in ws) o.layout x.opens.located).count))

  -- a word for each import and each function is inside a region
  pub callees_inside : o.counts.funcs + o.counts.imports < o.layout.words
  unfolding index_of
  callees_inside =
      omega (
        arith,
        funcs_inside,
        ap (λ (i : Index). i.funcs) x.edges,
        (imports_indexed ws (module_in ws) o.layout x.opens.located).count,
        count_imports ws o x.opens,
        count_funcs ws o x.opens,
      )

  -- ── the word of a member's place ──

  pub string_room : (s : ℕ) → s < o.counts.strings → o.index.strings + s < length w
  string_room s h = entry_room string ws (module_in ws).strings w o.index.strings x.strings s (strings_in ws w o x s h)

  pub type_room : (t : ℕ) → t < o.counts.types → o.index.types + t < length w
  type_room t h = entry_room type_def ws (module_in ws).types w o.index.types x.types t (types_in ws w o x t h)

  module _ (t : ℕ) (h : t < o.counts.types) {p : ℕ} (e : p ≡ pos_at w o.index.types t) where
    pub type_whole : Whole (type_def ws p)
    type_whole = rw e (entry_whole type_def ws (module_in ws).types w o.index.types x.types coroutine t (types_in ws w o x t h))

    pub type_value : value_of coroutine (type_def ws p) ≡ type_at (module_in ws).types t
    unfolding type_at
    type_value = rw e (entry_value type_def ws (module_in ws).types w o.index.types x.types coroutine t (types_in ws w o x t h))

  pub const_room : (c : ℕ) → c < o.counts.consts → o.index.consts + c < length w
  const_room c h = entry_room const_of ws (module_in ws).consts w o.index.consts x.consts c (consts_in ws w o x c h)

  pub import_room : (i : ℕ) → i < o.counts.imports → o.index.imports + i < length w
  import_room i h = entry_room import_of ws (module_in ws).imports w o.index.imports x.imports i (imports_in ws w o x i h)

  pub func_room : (f : ℕ) → f < o.counts.funcs → o.index.funcs + f < length w
  func_room f h = entry_room function_of ws (module_in ws).funcs w o.index.funcs x.funcs f (funcs_in ws w o x f h)

  -- and of a function's count of captures
  pub captures_room : (f : ℕ) → f < o.counts.funcs → 4 * o.layout.words + f < length w
  captures_room f h = omega (arith, x.room, funcs_in ws w o x f h, funcs_inside)

  -- ── what is kept ──

  -- the sheet is still ready when no word of the four regions was written
  pub ready_below : (v : List ℕ) → Frame (λ k. k < 4 * o.layout.words) w v → Ready ws v o
  ready_below v k = record {
    opens = x.opens;
    room = omega (arith, x.room, k.len);
    edges = x.edges;
    inside = x.inside;
    strings = entries_kept string ws _ w _ x.strings (λ k. k < 4 * o.layout.words) v k λ i h. omega (arith, strings_inside);
    types = entries_kept type_def ws _ w _ x.types (λ k. k < 4 * o.layout.words) v k λ i h. omega (arith, types_inside);
    consts = entries_kept const_of ws _ w _ x.consts (λ k. k < 4 * o.layout.words) v k λ i h. omega (arith, consts_inside);
    imports = entries_kept import_of ws _ w _ x.imports (λ k. k < 4 * o.layout.words) v k λ i h. omega (arith, imports_inside);
    funcs = entries_kept function_of ws _ w _ x.funcs (λ k. k < 4 * o.layout.words) v k λ i h. omega (arith, funcs_inside);
    string_numbers = λ s h. k.same (o.layout.words + s) (omega (arith, strings_inside)) ∙ x.string_numbers s h;
    type_numbers = λ t h. k.same (2 * o.layout.words + t) (omega (arith, types_inside)) ∙ x.type_numbers t h;
    marks = λ s h. k.same (3 * o.layout.words + s) (omega (arith, strings_inside)) ∙ x.marks s h;
  }

  -- and when only free words were
  pub ready_kept : (v : List ℕ) → Kept o w v → Ready ws v o
  unfolding Kept
  ready_kept v k = ready_below v (record { len = k.len; same = λ i h. k.same i (omega arith) })

  -- ── canonical numbers ──

  pub string_canon : (s : ℕ) → s < length (module_in ws).strings → pos_at w o.layout.words s ≡ canon_string (module_in ws).strings s
  unfolding pos_at
  string_canon s h = x.string_numbers s h

  pub type_canon : (t : ℕ) → t < length (module_in ws).types → pos_at w (2 * o.layout.words) t ≡ canon_type (module_in ws).types t
  unfolding pos_at
  type_canon t h = x.type_numbers t h

-- ── only free words were written ──

module _ (o : Opened) where
  pub kept_same : (w : List ℕ) → Kept o w w
  unfolding Kept
  kept_same w = frame_refl (λ k. k < 5 * o.layout.words) w

  pub kept_then : (w v u : List ℕ) → Kept o w v → Kept o v u → Kept o w u
  unfolding Kept
  kept_then w v u f g = frame_then (λ k. k < 5 * o.layout.words) (λ k. k < 5 * o.layout.words) (λ k. k < 5 * o.layout.words) w v u (λ k h. h) (λ k h. h) f g

-- ── only words from 6 * words on were written ──

module _ (o : Opened) where
  pub above_refl : (w : List ℕ) → Above o w w
  unfolding Above
  above_refl w = frame_refl (λ k. k < 6 * o.layout.words) w

  pub above_then : (u v w : List ℕ) → Above o u v → Above o v w → Above o u w
  unfolding Above
  above_then u v w f g =
      let low : ℕ → Type 0 = λ k. k < 6 * o.layout.words in
      frame_then low low low u v w (λ k h. h) (λ k h. h) f g

  pub above_length : (w v : List ℕ) → Above o w v → length v ≡ length w
  unfolding Above
  above_length w v a = a.len

  module _ (ws w v : List ℕ) (x : Ready ws w o) (a : Above o w v) where
    pub ready_above : Ready ws v o
    unfolding Above
    ready_above = ready_below ws w o x v (record { len = a.len; same = λ k h. a.same k (omega arith) })

    pub captured_above : Captured ws w o → Captured ws v o
    unfolding Above
    captured_above y = record {
      captures = λ f d h. a.same (4 * o.layout.words + f) (omega (arith, funcs_inside ws w o x)) ∙ y.captures f d h;
    }
