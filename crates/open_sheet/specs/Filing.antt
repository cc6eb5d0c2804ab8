-- The index in lent words, step by step up to a sheet that is ready.
use Rattle.std.specs.Prelude.{ℕ, ◌+◌, ◌*◌, ◌≤◌, ◌<◌, ◌≡◌, refl, List, ◌++◌, true, false, drop}
use Rattle.std.proofs.Common.{subst, ◌∙◌, arith, zero-add, length-append, get_or-append-add}
use Rattle.std.proofs.Math.Path.{ap}
use Rattle.std.proofs.Math.Numerals.{add-one}
use Rattle.std.proofs.Math.ListN.{length, get_or, get_or-append}
use Rattle.std.proofs.Math.Seq.{paste, take-length}
use Rattle.std.proofs.lemmas.List.Edits.{length-paste}
use Rattle.lists.specs.Lists.{all_of}
use Rattle.blocks.specs.ByteLaws.{is_byte, is_word}
use Rattle.blocks.specs.Frame.{first_words}
use Rattle.blocks.proofs.FirstWords.{first_words_small}
use Rattle.reader.specs.Reader.{Reader}
use Rattle.reader.specs.Text.{string}
use Rattle.sheet.specs.Decode.{type_def, const_of, import_of, function_of}
use Rattle.open_layout.specs.LayoutLaws.{Located}
use Rattle.open_layout.specs.Opened.{module_in}
use Rattle.open_layout.specs.declared.Layout.{Layout}
use Rattle.open_index.specs.declared.Part.TheVariants.{Strings, Types, Consts, Imports, Funcs}
use Rattle.open_index.specs.declared.Index.{Index}
use Rattle.open_index.specs.Index.{edges_of, index, index_of}
use Rattle.open_index.specs.IndexLaws.{Indexed}
use Rattle.open_index.specs.SheetIndex.{strings_indexed, types_indexed, consts_indexed, imports_indexed, funcs_indexed, index_fits}
use Rattle.region.specs.Region.{part, Off, Frame}
use Rattle.region.specs.RegionLaws.{part_is}
use Rattle.canon.specs.Canon.{canon_string, canon_type}
use Rattle.sorting.specs.Items.{Rising}
use Rattle.open_canon.specs.Contract.{Regions, Numbered}
use Rattle.open_canon.specs.SheetNumbers.{types_rising, strings_rising}
use Rattle.open_canon.proofs.SheetRegions.{type_number_lem, string_number_lem}
use Rattle.open_sheet.specs.declared.Counts.{Counts}
use Rattle.open_sheet.specs.Ready.{counts_of, Entries, Ready, pos_at}

-- ── five lists side by side: where word i of each stands ──

module _ (s₁ s₂ s₃ s₄ s₅ : List ℕ) where
  abbrev five : List ℕ
  five = s₁ ++ s₂ ++ s₃ ++ s₄ ++ s₅

  abbrev front : ℕ → ℕ
  front k = get_or five k 0

  lengths : length five ≡ length s₁ + length s₂ + length s₃ + length s₄ + length s₅
  lengths = omega (arith, length-append s₁ s₂, length-append (s₁ ++ s₂) s₃, length-append (s₁ ++ s₂ ++ s₃) s₄, length-append (s₁ ++ s₂ ++ s₃ ++ s₄) s₅)

  in_fourth : (k : ℕ) → k < length (s₁ ++ s₂ ++ s₃ ++ s₄) → front k ≡ get_or (s₁ ++ s₂ ++ s₃ ++ s₄) k 0
  in_fourth k h = get_or-append (s₁ ++ s₂ ++ s₃ ++ s₄) s₅ 0 k h

  in_third : (k : ℕ) → k < length (s₁ ++ s₂ ++ s₃) → front k ≡ get_or (s₁ ++ s₂ ++ s₃) k 0
  in_third k h = in_fourth k (omega (arith, length-append (s₁ ++ s₂ ++ s₃) s₄)) ∙ get_or-append (s₁ ++ s₂ ++ s₃) s₄ 0 k h

  in_second : (k : ℕ) → k < length (s₁ ++ s₂) → front k ≡ get_or (s₁ ++ s₂) k 0
  in_second k h = in_third k (omega (arith, length-append (s₁ ++ s₂) s₃)) ∙ get_or-append (s₁ ++ s₂) s₃ 0 k h

  at₁ : (i : ℕ) → i < length s₁ → front (0 + i) ≡ get_or s₁ i 0
  at₁ i h = ap front (zero-add i) ∙ in_second i (omega (arith, length-append s₁ s₂)) ∙ get_or-append s₁ s₂ 0 i h

  at₂ : (i : ℕ) → i < length s₂ → front (0 + length s₁ + i) ≡ get_or s₂ i 0
  at₂ i h =
      let z : 0 + length s₁ + i ≡ length s₁ + i = omega arith in
      ap front z ∙ in_second (length s₁ + i) (omega (arith, length-append s₁ s₂)) ∙ get_or-append-add s₁ s₂ i 0

  at₃ : (i : ℕ) → i < length s₃ → front (0 + length s₁ + length s₂ + i) ≡ get_or s₃ i 0
  at₃ i h =
      let z : 0 + length s₁ + length s₂ + i ≡ length (s₁ ++ s₂) + i = omega (arith, length-append s₁ s₂) in
      ap front z ∙ in_third (length (s₁ ++ s₂) + i) (omega (arith, length-append (s₁ ++ s₂) s₃)) ∙ get_or-append-add (s₁ ++ s₂) s₃ i 0

  at₄ : (i : ℕ) → i < length s₄ → front (0 + length s₁ + length s₂ + length s₃ + i) ≡ get_or s₄ i 0
  at₄ i h =
      let z : 0 + length s₁ + length s₂ + length s₃ + i ≡ length (s₁ ++ s₂ ++ s₃) + i = omega (arith, length-append s₁ s₂, length-append (s₁ ++ s₂) s₃) in
      ap front z ∙ in_fourth (length (s₁ ++ s₂ ++ s₃) + i) (omega (arith, length-append (s₁ ++ s₂ ++ s₃) s₄)) ∙ get_or-append-add (s₁ ++ s₂ ++ s₃) s₄ i 0

  at₅ : (i : ℕ) → i < length s₅ → front (0 + length s₁ + length s₂ + length s₃ + length s₄ + i) ≡ get_or s₅ i 0
  at₅ i h =
      let z : 0 + length s₁ + length s₂ + length s₃ + length s₄ + i ≡ length (s₁ ++ s₂ ++ s₃ ++ s₄) + i =
      omega (arith, length-append s₁ s₂, length-append (s₁ ++ s₂) s₃, length-append (s₁ ++ s₂ ++ s₃) s₄) in
      ap front z ∙ get_or-append-add (s₁ ++ s₂ ++ s₃ ++ s₄) s₅ i 0

-- ── words that hold the index from word 0 on ──

pub record Filed (ws w : List ℕ) (l : Layout) : Type 0 where
  pub located : Located ws (module_in ws) l
  pub small : all_of is_word ws ≡ true
  pub room : 64 + 8 * l.words ≤ length w
  pub fits : length (index ws l) ≤ l.words
  pub held : (k : ℕ) → k < length (index ws l) → get_or w k 0 ≡ get_or (index ws l) k 0

module _ (b w : List ℕ) (l : Layout) where
  abbrev ws : List ℕ
  ws = first_words b l.words

  pub filed_room : all_of is_byte b ≡ true → Located ws (module_in ws) l → 64 + 8 * l.words ≤ length w → length (index ws l) ≤ length w
  filed_room h x r = omega (arith, index_fits ws (module_in ws) l x (first_words_small b l.words h))

  pub filed : all_of is_byte b ≡ true → Located ws (module_in ws) l → 64 + 8 * l.words ≤ length w → {v : List ℕ} → v ≡ paste w 0 (index ws l) (length (index ws l)) → Filed ws v l
  filed h x r e =
      let s = first_words_small b l.words h in
      let f = index_fits ws (module_in ws) l x s in
      let xs = index ws l in
      rw e (record {
        located = x;
        small = s;
        room = omega (arith, length-paste w 0 xs (length xs) (omega arith) (omega arith));
        fits = f;
        held = λ k i. ap (λ ys. get_or (ys ++ drop (0 + length xs) w) k 0) (take-length xs) ∙ get_or-append xs (drop (0 + length xs) w) 0 k i;
      })

module _ (ws w : List ℕ) (l : Layout) (x : Filed ws w l) where
  pub filed_kept : (P : ℕ → Type 0) (v : List ℕ) → Frame P w v → ((k : ℕ) → k < l.words → P k) → Filed ws v l
  filed_kept P v f p = record {
    located = x.located;
    small = x.small;
    room = omega (arith, x.room, f.len);
    fits = x.fits;
    held = λ k h. f.same k (p k (omega (arith, x.fits))) ∙ x.held k h;
  }

  abbrev s₁ : List ℕ
  s₁ = edges_of Strings ws l.strings

  abbrev s₂ : List ℕ
  s₂ = edges_of Types ws l.types

  abbrev s₃ : List ℕ
  s₃ = edges_of Consts ws l.consts

  abbrev s₄ : List ℕ
  s₄ = edges_of Imports ws l.imports

  abbrev s₅ : List ℕ
  s₅ = edges_of Funcs ws l.funcs

  -- a part whose edges stand at base
  entries : {A : Type 0} (f : Reader A) (at : ℕ) (xs : List A) (es : List ℕ) (base : ℕ) → Indexed f ws at xs es → base + length es ≤ length (index ws l) →
      ((i : ℕ) → i < length es → get_or (index ws l) (base + i) 0 ≡ get_or es i 0) → Entries f ws xs w base
  unfolding pos_at
  entries f at xs es base d r h = record {
    room = omega (arith, r, d.count, x.fits, x.room);
    member = λ i e k.
        rw (word i (omega (arith, d.count)), word (i + 1) (omega (arith, d.count)), add-one i) (d.member i e k);
  }
    where
      word : (i : ℕ) → i < length es → get_or w (base + i) 0 ≡ get_or es i 0
      word i k = x.held (base + i) (omega (arith, r)) ∙ h i k

  total : length (index ws l) ≡ length s₁ + length s₂ + length s₃ + length s₄ + length s₅
  unfolding index
  total = lengths s₁ s₂ s₃ s₄ s₅

  -- ── the five parts ──

  pub strings_filed : Entries string ws (module_in ws).strings w (index_of ws l).strings
  unfolding index index_of
  strings_filed =
      entries string l.strings (module_in ws).strings s₁ 0 (strings_indexed ws (module_in ws) l x.located) (omega (arith, total)) (at₁ s₁ s₂ s₃ s₄ s₅)

  pub types_filed : Entries type_def ws (module_in ws).types w (index_of ws l).types
  unfolding index index_of
  types_filed =
      entries type_def l.types (module_in ws).types s₂ (0 + length s₁) (types_indexed ws (module_in ws) l x.located) (omega (arith, total)) (at₂ s₁ s₂ s₃ s₄ s₅)

  pub consts_filed : Entries const_of ws (module_in ws).consts w (index_of ws l).consts
  unfolding index index_of
  consts_filed =
      entries const_of l.consts (module_in ws).consts s₃ (0 + length s₁ + length s₂) (consts_indexed ws (module_in ws) l x.located) (omega (arith, total))
      (at₃ s₁ s₂ s₃ s₄ s₅)

  pub imports_filed : Entries import_of ws (module_in ws).imports w (index_of ws l).imports
  unfolding index index_of
  imports_filed =
      entries import_of l.imports (module_in ws).imports s₄ (0 + length s₁ + length s₂ + length s₃) (imports_indexed ws (module_in ws) l x.located) (omega (arith, total))
      (at₄ s₁ s₂ s₃ s₄ s₅)

  pub funcs_filed : Entries function_of ws (module_in ws).funcs w (index_of ws l).funcs
  unfolding index index_of
  funcs_filed =
      entries function_of l.funcs (module_in ws).funcs s₅ (0 + length s₁ + length s₂ + length s₃ + length s₄) (funcs_indexed ws (module_in ws) l x.located) (omega (arith, total))
      (at₅ s₁ s₂ s₃ s₄ s₅)

  -- each part's edges stand before the index ends, and that is within the first n words
  pub index_inside : (index_of ws l).end ≤ l.words
  unfolding index_of
  index_inside = omega (arith, total, x.fits)

  -- ── what numbering asks ──

  strings_edges : part (index_of ws l).strings (length (module_in ws).strings + 1) w ≡ s₁
  unfolding index_of index
  strings_edges =
      let d = strings_indexed ws (module_in ws) l x.located in
      part_is 0 (length (module_in ws).strings + 1) w s₁ (omega (arith, d.count, total, x.fits, x.room)) d.count λ i h.
      x.held (0 + i) (omega (arith, d.count, total)) ∙ at₁ s₁ s₂ s₃ s₄ s₅ i (omega (arith, d.count))

  types_edges : part (index_of ws l).types (length (module_in ws).types + 1) w ≡ s₂
  unfolding index_of index
  types_edges =
      let d = types_indexed ws (module_in ws) l x.located in
      part_is (0 + length s₁) (length (module_in ws).types + 1) w s₂ (omega (arith, d.count, total, x.fits, x.room)) d.count λ i h.
      x.held (0 + length s₁ + i) (omega (arith, d.count, total)) ∙ at₂ s₁ s₂ s₃ s₄ s₅ i (omega (arith, d.count))

  -- s lies in the first n words, and a, b and c are regions of n words after them
  regions : (n s k a b c : ℕ) → Rising ws (part s (n + 1) w) n → k ≡ l.words → k < 4294967296 → s + (n + 1) ≤ k → k ≤ c → c + k ≤ a → a + k ≤ b → b + k ≤ 8 * k → Regions ws w n s a b c
  regions n s k a b c g e h sk kc ca ab bk = record {
    good = g;
    small = omega arith;
    s_in = omega (arith, x.room);
    a_in = omega (arith, x.room);
    b_in = omega (arith, x.room);
    c_in = omega (arith, x.room);
    s_a = λ i p q r t. omega arith;
    s_b = λ i p q r t. omega arith;
    s_c = λ i p q r t. omega arith;
    a_b = λ i p q r t. omega arith;
    a_c = λ i p q r t. omega arith;
    b_c = λ i p q r t. omega arith;
  }

  pub strings_regions : {n s k a b c : ℕ} → l.words < 4294967296 → n ≡ length (module_in ws).strings → s ≡ (index_of ws l).strings → k ≡ l.words → a ≡ 4 * k → b ≡ 5 * k → c ≡ 1 * k → Regions ws w n s a b c
  strings_regions {n} {s} {k} {a} {b} {c} small en es ek ea eb ec =
      regions n s k a b c (rw (en, es, strings_edges) (strings_rising ws (module_in ws) l x.located x.small)) ek (omega arith) inside (omega arith) (omega arith) (omega arith) (omega arith)
    where
      inside : s + (n + 1) ≤ k
      inside = unfold index_of in omega (arith, en, es, total, x.fits, (strings_indexed ws (module_in ws) l x.located).count)

  pub types_regions : {n s k a b c : ℕ} → l.words < 4294967296 → n ≡ length (module_in ws).types → s ≡ (index_of ws l).types → k ≡ l.words → a ≡ 4 * k → b ≡ 5 * k → c ≡ 2 * k → Regions ws w n s a b c
  types_regions {n} {s} {k} {a} {b} {c} small en es ek ea eb ec =
      regions n s k a b c (rw (en, es, types_edges) (types_rising ws (module_in ws) l x.located)) ek (omega arith) inside (omega arith) (omega arith) (omega arith) (omega arith)
    where
      inside : s + (n + 1) ≤ k
      inside = unfold index_of in omega (arith, en, es, total, x.fits, (types_indexed ws (module_in ws) l x.located).count)

-- ── ready ──

module _ (ws w v u z : List ℕ) (l : Layout) (x : Filed ws w l) {s t k s_at t_at a b c₁ c₂ c₃ : ℕ} (small : l.words < 4294967296)
    (es : s ≡ length (module_in ws).strings) (et : t ≡ length (module_in ws).types) (eis : s_at ≡ (index_of ws l).strings) (eit : t_at ≡ (index_of ws l).types)
    (ek : k ≡ l.words) (ea : a ≡ 4 * k) (eb : b ≡ 5 * k) (e₁ : c₁ ≡ 1 * k) (e₂ : c₂ ≡ 2 * k) (e₃ : c₃ ≡ 3 * k)
    (n₁ : Numbered ws w v s s_at a b c₁ false) where
  few_strings : s + 1 ≤ k
  few_strings = unfold index_of in omega (arith, es, ek, total ws w l x, x.fits, (strings_indexed ws (module_in ws) l x.located).count)

  few_types : t + 1 ≤ k
  few_types = unfold index_of in omega (arith, et, ek, total ws w l x, x.fits, (types_indexed ws (module_in ws) l x.located).count)

  frame₁ : Frame (λ i. i < k) w v
  frame₁ = record { len = n₁.len; same = λ i h. n₁.same i (λ p q. omega arith) (λ p q. omega arith) (λ p q. omega arith) }

  pub filed_first : Filed ws v l
  filed_first = filed_kept ws w l x (λ i. i < k) v frame₁ (λ i h. omega arith)

  module _ (n₂ : Numbered ws v u t t_at a b c₂ true) where
    frame₂ : Frame (λ i. i < k) v u
    frame₂ = record { len = n₂.len; same = λ i h. n₂.same i (λ p q. omega arith) (λ p q. omega arith) (λ p q. omega arith) }

    pub filed_second : Filed ws u l
    filed_second = filed_kept ws v l filed_first (λ i. i < k) u frame₂ (λ i h. omega arith)

    module _ (f : Frame (Off c₃ (c₃ + s)) u z) (zero : (i : ℕ) → i < s → get_or z (c₃ + i) 0 ≡ 0) where
      frame₃ : Frame (λ i. i < k) u z
      frame₃ = record { len = f.len; same = λ i h. f.same i (λ p q. omega arith) }

      filed_third : Filed ws z l
      filed_third = filed_kept ws u l filed_second (λ i. i < k) z frame₃ (λ i h. omega arith)

      string_numbers_lem : (i : ℕ) → i < length (module_in ws).strings → get_or z (l.words + i) 0 ≡ canon_string (module_in ws).strings i
      string_numbers_lem i h =
          let e : l.words + i ≡ c₁ + i = omega arith in
          let n : Numbered ws w v (length (module_in ws).strings) s_at a b c₁ false = subst (λ (y : ℕ). Numbered ws w v y s_at a b c₁ false) es n₁ in
          ap (λ y. get_or z y 0) e
          ∙ f.same (c₁ + i) (λ p q. omega (arith, few_strings, few_types))
          ∙ n₂.same (c₁ + i) (λ p q. omega (arith, few_strings, few_types)) (λ p q. omega (arith, few_strings, few_types)) (λ p q. omega (arith, few_strings, few_types))
          ∙ string_number_lem ws (module_in ws) l x.located w v s_at a b c₁ x.small (rw eis (strings_edges ws w l x)) n i h

      type_numbers_lem : (i : ℕ) → i < length (module_in ws).types → get_or z (2 * l.words + i) 0 ≡ canon_type (module_in ws).types i
      type_numbers_lem i h =
          let e : 2 * l.words + i ≡ c₂ + i = omega arith in
          let n : Numbered ws v u (length (module_in ws).types) t_at a b c₂ true = subst (λ (y : ℕ). Numbered ws v u y t_at a b c₂ true) et n₂ in
          ap (λ y. get_or z y 0) e
          ∙ f.same (c₂ + i) (λ p q. omega (arith, few_types))
          ∙ type_number_lem ws (module_in ws) l x.located v u t_at a b c₂ (rw eit (types_edges ws v l filed_first)) n i h

      pub ready : {e : ℕ} {xi : Index} {c : Counts} → e ≡ (module_in ws).edition → xi ≡ index_of ws l → c ≡ counts_of (module_in ws) →
          Ready ws z (record { edition = e; layout = l; index = xi; counts = c })
      ready ee ei ec = rw ei (record {
        opens = record { edition = ee; located = x.located; counts = ec };
        room = filed_third.room;
        edges = refl;
        inside = index_inside ws z l filed_third;
        strings = strings_filed ws z l filed_third;
        types = types_filed ws z l filed_third;
        consts = consts_filed ws z l filed_third;
        imports = imports_filed ws z l filed_third;
        funcs = funcs_filed ws z l filed_third;
        string_numbers = string_numbers_lem;
        type_numbers = type_numbers_lem;
        marks = λ i h. let e : 3 * l.words + i ≡ c₃ + i = omega arith in ap (λ y. get_or z y 0) e ∙ zero i (omega arith);
      })

-- ── as code asks ──

module _ (ws w : List ℕ) (l : Layout) (x : Filed ws w l) (small : l.words < 4294967296) (xi : Index) (ei : xi ≡ index_of ws l) (c : Counts) (ec : c ≡ counts_of (module_in ws)) where
  strings_are : c.strings ≡ length (module_in ws).strings
  strings_are = unfold counts_of in ap (λ (y : Counts). y.strings) ec

  types_are : c.types ≡ length (module_in ws).types
  types_are = unfold counts_of in ap (λ (y : Counts). y.types) ec

  strings_begin : xi.strings ≡ (index_of ws l).strings
  strings_begin = ap (λ (y : Index). y.strings) ei

  types_begin : xi.types ≡ (index_of ws l).types
  types_begin = ap (λ (y : Index). y.types) ei

  pub strings_asked : Regions ws w c.strings xi.strings (4 * l.words) (5 * l.words) (1 * l.words)
  strings_asked = strings_regions ws w l x {k = l.words} small strings_are strings_begin refl refl refl refl

  module _ (v : List ℕ) (n₁ : Numbered ws w v c.strings xi.strings (4 * l.words) (5 * l.words) (1 * l.words) false) where
    first : Filed ws v l
    first = filed_first ws w v v v l x {k = l.words} small strings_are types_are strings_begin types_begin refl refl refl refl refl refl n₁

    pub types_asked : Regions ws v c.types xi.types (4 * l.words) (5 * l.words) (2 * l.words)
    types_asked = types_regions ws v l first {k = l.words} small types_are types_begin refl refl refl refl

    module _ (u : List ℕ) (n₂ : Numbered ws v u c.types xi.types (4 * l.words) (5 * l.words) (2 * l.words) true) where
      second : Filed ws u l
      second = filed_second ws w v u u l x {k = l.words} small strings_are types_are strings_begin types_begin refl refl refl refl refl refl n₁ n₂

      pub marks_asked : (3 * l.words + c.strings ≤ length u) × (0 < 4294967296)
      marks_asked = (omega (arith, second.room, few_strings ws w v u u l x {k = l.words} small strings_are types_are strings_begin types_begin refl refl refl refl refl refl n₁), omega arith)

      pub ready_made : (z : List ℕ) → Frame (Off (3 * l.words) (3 * l.words + c.strings)) u z → ((i : ℕ) → i < c.strings → get_or z (3 * l.words + i) 0 ≡ 0) →
          {e : ℕ} → e ≡ (module_in ws).edition → (l ≡ l) × Ready ws z (record { edition = e; layout = l; index = xi; counts = c })
      ready_made z f k ee = (
        refl,
        ready ws w v u z l x {k = l.words} small strings_are types_are strings_begin types_begin
            refl refl refl refl refl refl n₁ n₂ f k ee ei ec,
      )
