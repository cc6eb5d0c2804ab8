-- Sections side by side, and the header before them.
use Prim.Native.Nat.{ℕ, zero, suc, ◌+◌, ◌-◌, ◌*◌, ◌≤◌, ◌<◌}
use mathlib.Core.Path.{◌≡◌, refl, sym, ap, ap₂, ◌∙◌}
use mathlib.Core.List.{List, [], ◌∷◌, ◌++◌, append_assoc, append-nil}
use native.Mathlib.Omega.{arith}
use native.Mathlib.Decide.{dec_lt}
use lib.ListN.{length, get_or, length-append, get_or-append}
use lib.Seq.{get_or-append-add}
use Rattle.lists.specs.Lists.{concat_map, from}
use Rattle.canon.specs.Canon.{canon_type}
use Rattle.code.specs.Callee.{import_at}
use Rattle.writing.specs.Writing.{written}
use Rattle.writing.specs.WritingLaws.{written_then, join_first, join_room, join_written, join_place, written_length, written_at, written_after, written_by}
use Rattle.region.specs.Region.{Off, Frame}
use Rattle.region.specs.RegionLaws.{frame_then}
use Rattle.open_layout.specs.Opened.{module_in}
use Rattle.table.specs.Table.{starts_from, joined, hook_section, canon_section, global_section, reference_section, spans_of}
use Rattle.open_sheet.specs.declared.Opened.{Opened}
use Rattle.open_sheet.specs.Ready.{Ready}
use Rattle.open_sheet.specs.ReadyLaws.{ready_below, imports_inside}
use Rattle.table_all.specs.declared.Front.{Front}
use Rattle.table_all.specs.declared.Back.{Back}
use Rattle.table_imports.specs.SectionLaws.{canon_length, hook_length}
use Rattle.table_imports.specs.Sections.{linked_import, linked_imports, each_of}
use Rattle.table_all.specs.Parts.{func_section, type_section, front_words, back_words, FrontAt, BackAt, Small, header_of, table_by}

-- ── four writes in a row ──

module _ (w : List ℕ) (at : ℕ) (s₁ s₂ s₃ s₄ : List ℕ) (room : at + length (s₁ ++ s₂ ++ s₃ ++ s₄) ≤ length w) where
  three_fit : at + length (s₁ ++ s₂ ++ s₃) ≤ length w
  three_fit = join_first w at (s₁ ++ s₂ ++ s₃) s₄ room

  two_fit : at + length (s₁ ++ s₂) ≤ length w
  two_fit = join_first w at (s₁ ++ s₂) s₃ three_fit

  pub first_room : at + length s₁ ≤ length w
  first_room = join_first w at s₁ s₂ two_fit

  module _ {v : List ℕ} {p : ℕ} (a : v ≡ written w at s₁) (pa : p ≡ at + length s₁) where
    pub second_room : p + length s₂ ≤ length v
    second_room = join_room w at s₁ s₂ two_fit v p a pa

    module _ {u : List ℕ} {q : ℕ} (b : u ≡ written v p s₂) (qb : q ≡ p + length s₂) where
      two : u ≡ written w at (s₁ ++ s₂)
      two = join_written w at s₁ s₂ two_fit v p a pa b

      q_at : q ≡ at + length (s₁ ++ s₂)
      q_at = join_place w at s₁ s₂ two_fit v p a pa qb

      pub third_room : q + length s₃ ≤ length u
      third_room = join_room w at (s₁ ++ s₂) s₃ three_fit u q two q_at

      module _ {t : List ℕ} {s : ℕ} (c : t ≡ written u q s₃) (sc : s ≡ q + length s₃) where
        three : t ≡ written w at (s₁ ++ s₂ ++ s₃)
        three = join_written w at (s₁ ++ s₂) s₃ three_fit u q two q_at c

        s_at : s ≡ at + length (s₁ ++ s₂ ++ s₃)
        s_at = join_place w at (s₁ ++ s₂) s₃ three_fit u q two q_at sc

        pub fourth_room : s + length s₄ ≤ length t
        fourth_room = join_room w at (s₁ ++ s₂ ++ s₃) s₄ room t s three s_at

        pub four : {x : List ℕ} → x ≡ written t s s₄ → x ≡ written w at (s₁ ++ s₂ ++ s₃ ++ s₄)
        four d = join_written w at (s₁ ++ s₂ ++ s₃) s₄ room t s three s_at d

-- ── functions, types, imports, hooks ──

module _ (ws w : List ℕ) (o : Opened) (tb : List ℕ) (at : ℕ) (room : at + length (front_words ws w o) ≤ length tb) where
  abbrev F : List ℕ
  F = func_section ws

  abbrev T : List ℕ
  T = type_section ws

  abbrev I : List ℕ
  I = linked_imports ws w o

  abbrev H : List ℕ
  H = hook_section (module_in ws)

  parted : at + length (F ++ T ++ I ++ H) ≤ length tb
  unfolding front_words
  parted = room

  pub funcs_room : at + length (func_section ws) ≤ length tb
  funcs_room = first_room tb at F T I H parted

  module _ {v : List ℕ} {p : ℕ} (a : v ≡ written tb at (func_section ws)) (pa : p ≡ at + length (func_section ws)) where
    pub types_room : p + length (type_section ws) ≤ length v
    types_room = second_room tb at F T I H parted a pa

    module _ {u : List ℕ} {q : ℕ} (b : u ≡ written v p (type_section ws)) (qb : q ≡ p + length (type_section ws)) (w₂ : List ℕ) (k : linked_imports ws w₂ o ≡ linked_imports ws w o) where
      pub imports_room : q + length (linked_imports ws w₂ o) ≤ length u
      imports_room = omega (arith, third_room tb at F T I H parted a pa b qb, ap length k)

      module _ {t : List ℕ} {s : ℕ} (c : t ≡ written u q (linked_imports ws w₂ o)) (sc : s ≡ q + length (linked_imports ws w₂ o)) where
        c' : t ≡ written u q I
        c' = c ∙ ap (written u q) k

        sc' : s ≡ q + length I
        sc' = sc ∙ ap (λ l. q + length l) k

        pub hooks_room : s + length (hook_section (module_in ws)) ≤ length t
        hooks_room = fourth_room tb at F T I H parted a pa b qb c' sc'

        pub hooks_space : s + 32 ≤ length t
        hooks_space = omega (arith, hooks_room, hook_length (module_in ws))

        pub front_written : {x : List ℕ} → x ≡ written t s (hook_section (module_in ws)) → x ≡ written tb at (front_words ws w o)
        unfolding front_words
        front_written d = four tb at F T I H parted a pa b qb c' sc' d

        pub front_at : {e : ℕ} → e ≡ s + length (hook_section (module_in ws)) → FrontAt ws w o at (record { types = p; imports = q; hooks = s; end = e })
        front_at d = record { types = pa; imports = qb; hooks = sc'; end = d }

-- ── canonical numbers, globals, references, spans ──

module _ (ws tb : List ℕ) (at : ℕ) (room : at + length (back_words ws) ≤ length tb) where
  abbrev C : List ℕ
  C = canon_section (module_in ws)

  abbrev G : List ℕ
  G = global_section (module_in ws)

  abbrev R : List ℕ
  R = reference_section (module_in ws)

  abbrev S : List ℕ
  S = spans_of (module_in ws)

  cut : at + length (C ++ G ++ R ++ S) ≤ length tb
  unfolding back_words
  cut = room

  pub canon_room : at + length (canon_section (module_in ws)) ≤ length tb
  canon_room = first_room tb at C G R S cut

  pub canon_space : at + 1 + length (module_in ws).types ≤ length tb
  canon_space = omega (arith, canon_room, canon_length (module_in ws))

  module _ {v : List ℕ} {p : ℕ} (a : v ≡ written tb at (canon_section (module_in ws))) (pa : p ≡ at + length (canon_section (module_in ws))) where
    pub globals_room : p + length (global_section (module_in ws)) ≤ length v
    globals_room = second_room tb at C G R S cut a pa

    module _ {u : List ℕ} {q : ℕ} (b : u ≡ written v p (global_section (module_in ws))) (qb : q ≡ p + length (global_section (module_in ws))) where
      pub references_room : q + length (reference_section (module_in ws)) ≤ length u
      references_room = third_room tb at C G R S cut a pa b qb

      module _ {t : List ℕ} {s : ℕ} (c : t ≡ written u q (reference_section (module_in ws))) (sc : s ≡ q + length (reference_section (module_in ws))) where
        pub spans_room : s + length (spans_of (module_in ws)) ≤ length t
        spans_room = fourth_room tb at C G R S cut a pa b qb c sc

        pub back_written : {x : List ℕ} → x ≡ written t s (spans_of (module_in ws)) → x ≡ written tb at (back_words ws)
        unfolding back_words
        back_written d = four tb at C G R S cut a pa b qb c sc d

        pub back_at : {e : ℕ} → e ≡ s + length (spans_of (module_in ws)) →
            BackAt ws at (record { globals = p; references = q; spans = s; end = e })
        back_at d = record { globals = pa; references = qb; spans = sc; end = d }

-- ── the header, and the whole ──

-- what is written before what was written
module _ (w hs ys : List ℕ) (k : ℕ) (e : k ≡ length hs) (room : k + length ys ≤ length w) where
  abbrev u : List ℕ
  u = written w k ys

  abbrev v : List ℕ
  v = written u 0 hs

  len_u : length u ≡ length w
  len_u = written_length w k ys room

  head_room : 0 + length hs ≤ length u
  head_room = omega (arith, len_u)

  len_v : length v ≡ length w
  len_v = written_length u 0 hs head_room ∙ len_u

  outside : (j : ℕ) → Dec (j < length (hs ++ ys)) → Off 0 (0 + length (hs ++ ys)) j → get_or v j 0 ≡ get_or w j 0
  outside j (yes l) f = absurd (f (omega arith) (omega arith))
  outside j (no l) f = written_after u 0 hs head_room j (omega (arith, length-append hs ys)) ∙ written_after w k ys room j (omega (arith, length-append hs ys))

  after : (i j : ℕ) → i ≡ length hs + j → j < length ys → get_or v i 0 ≡ get_or (hs ++ ys) i 0
  after i j q l =
      let z : i ≡ k + j = omega arith in
      written_after u 0 hs head_room i (omega arith)
      ∙ ap (λ x. get_or u x 0) z
      ∙ written_at w k ys room j l
      ∙ sym (ap (λ x. get_or (hs ++ ys) x 0) q ∙ get_or-append-add hs ys j 0)

  word : (i : ℕ) → i < length (hs ++ ys) → Dec (i < length hs) → get_or v i 0 ≡ get_or (hs ++ ys) i 0
  word i l (yes h) =
      let z : i ≡ 0 + i = omega arith in
      ap (λ j. get_or v j 0) z ∙ written_at u 0 hs head_room i h ∙ sym (get_or-append hs ys 0 i h)
  word i l (no h) = after i (i - length hs) (omega arith) (omega (arith, length-append hs ys))

  inside : (i : ℕ) → i < length (hs ++ ys) → get_or v (0 + i) 0 ≡ get_or (hs ++ ys) i 0
  inside i l = let z : 0 + i ≡ i = omega arith in ap (λ j. get_or v j 0) z ∙ word i l (dec_lt i (length hs))

  written_front : written (written w k ys) 0 hs ≡ written w 0 (hs ++ ys)
  written_front =
      written_by w v 0 (hs ++ ys) (record { len = len_v; same = λ j f. outside j (dec_lt j (length (hs ++ ys))) f }) inside (omega (arith, length-append hs ys))

-- ten words, equal one by one
ten : {a b c d e f g h a' b' c' d' e' f' g' h' : ℕ} (l : List ℕ) → a ≡ a' → b ≡ b' → c ≡ c' → d ≡ d' → e ≡ e' → f ≡ f' → g ≡ g' → h ≡ h'
    → 2 ∷ a ∷ 10 ∷ b ∷ c ∷ d ∷ e ∷ f ∷ g ∷ h ∷ l ≡ 2 ∷ a' ∷ 10 ∷ b' ∷ c' ∷ d' ∷ e' ∷ f' ∷ g' ∷ h' ∷ l
ten l q₀ q₁ q₂ q₃ q₄ q₅ q₆ q₇ = cc

module _ (ws w : List ℕ) (o : Opened) where
  -- the sections one after the other
  abbrev every : List ℕ
  every =
      func_section ws
      ++ (type_section ws
      ++ (linked_imports ws w o
      ++ (hook_section (module_in ws)
      ++ (canon_section (module_in ws) ++ (global_section (module_in ws)
      ++ (reference_section (module_in ws) ++ (spans_of (module_in ws) ++ [])))))))

  flat_lists : (a b c d e f g h : List ℕ) → (a ++ b ++ c ++ d) ++ (e ++ f ++ g ++ h) ≡ a ++ (b ++ (c ++ (d ++ (e ++ (f ++ (g ++ (h ++ [])))))))
  flat_lists a b c d e f g h = simp (append_assoc, append-nil)

  flat : front_words ws w o ++ back_words ws ≡ every
  unfolding front_words back_words
  flat =
      flat_lists (func_section ws) (type_section ws) (linked_imports ws w o) (hook_section (module_in ws))
      (canon_section (module_in ws)) (global_section (module_in ws)) (reference_section (module_in ws)) (spans_of (module_in ws))

  -- the table's length, by its halves
  pub table_length_lem : length (table_by ws w o) ≡ 10 + length (front_words ws w o) + length (back_words ws)
  unfolding table_by joined starts_from
  table_length_lem = omega (arith, ap length flat, length-append (front_words ws w o) (back_words ws))

  module _ (f : Front) (x : FrontAt ws w o 10 f) where
    pub front_end : f.end ≡ 10 + length (front_words ws w o)
    unfolding front_words
    front_end =
        omega (
          arith,
          x.types,
          x.imports,
          x.hooks,
          x.end,
          length-append (func_section ws) (type_section ws),
          length-append (func_section ws ++ type_section ws) (linked_imports ws w o),
          length-append (func_section ws ++ type_section ws ++ linked_imports ws w o) (hook_section (module_in ws)),
        )

    module _ (b : Back) (y : BackAt ws f.end b) where
      back_end : b.end ≡ f.end + length (back_words ws)
      unfolding back_words
      back_end =
          omega (
            arith,
            y.globals,
            y.references,
            y.spans,
            y.end,
            length-append (canon_section (module_in ws)) (global_section (module_in ws)),
            length-append (canon_section (module_in ws) ++ global_section (module_in ws)) (reference_section (module_in ws)),
            length-append (canon_section (module_in ws) ++ global_section (module_in ws)
                ++ reference_section (module_in ws)) (spans_of (module_in ws)),
          )

      pub end_length : b.end ≡ length (table_by ws w o)
      end_length = omega (arith, back_end, front_end, table_length_lem)

      pub all_small : length (table_by ws w o) < 4294967296 → Small f b
      all_small h = record {
        types = omega (arith, x.types, x.imports, x.hooks, x.end, back_end, end_length);
        imports = omega (arith, x.imports, x.hooks, x.end, back_end, end_length);
        hooks = omega (arith, x.hooks, x.end, back_end, end_length);
        middle = omega (arith, back_end, end_length);
        globals = omega (arith, y.globals, y.references, y.spans, y.end, end_length);
        references = omega (arith, y.references, y.spans, y.end, end_length);
        spans = omega (arith, y.spans, y.end, end_length);
        end = omega (arith, end_length);
      }

      joined_is : header_of f b ++ (front_words ws w o ++ back_words ws) ≡ table_by ws w o
      unfolding table_by joined starts_from header_of
      joined_is =
          let all_length : length (front_words ws w o ++ back_words ws) ≡ length every = ap length flat in
          let q₀ : b.end ≡ 10 + length every = omega (arith, back_end, front_end, all_length, length-append (front_words ws w o) (back_words ws)) in
          let q₁ : f.types ≡ 10 + length (func_section ws) = x.types in
          let q₂ : f.imports ≡ 10 + length (func_section ws) + length (type_section ws) = x.imports ∙ ap (λ k. k + length (type_section ws)) q₁ in
          let q₃ : f.hooks ≡ 10 + length (func_section ws) + length (type_section ws) + length (linked_imports ws w o) = x.hooks ∙ ap (λ k. k + length (linked_imports ws w o)) q₂ in
          let q₄ : f.end ≡ 10 + length (func_section ws) + length (type_section ws) + length (linked_imports ws w o) + length (hook_section (module_in ws)) = x.end ∙ ap (λ k. k + length (hook_section (module_in ws))) q₃ in
          let q₅ = y.globals ∙ ap (λ k. k + length (canon_section (module_in ws))) q₄ in
          let q₆ = y.references ∙ ap (λ k. k + length (global_section (module_in ws))) q₅ in
          let q₇ = y.spans ∙ ap (λ k. k + length (reference_section (module_in ws))) q₆ in
          ap (λ l. header_of f b ++ l) flat ∙ ten every q₀ q₁ q₂ q₃ q₄ q₅ q₆ q₇

      pub table_written : (t₀ : List ℕ) {t₁ t₂ t₃ : List ℕ} → length (table_by ws w o) ≤ length t₀ → t₁ ≡ written t₀ 10 (front_words ws w o) → t₂ ≡ written t₁ f.end (back_words ws)
          → t₃ ≡ written t₂ 0 (header_of f b) → t₃ ≡ written t₀ 0 (table_by ws w o)
      unfolding header_of
      table_written t₀ {t₁} {t₂} {t₃} room e₁ e₂ e₃ =
          let both : t₂ ≡ written t₀ 10 (front_words ws w o ++ back_words ws) =
          e₂ ∙ ap₂ (λ (x : List ℕ) (k : ℕ). written x k (back_words ws)) e₁ front_end ∙ written_then t₀ 10 (front_words ws w o) (back_words ws) (omega (arith, table_length_lem)) in
          e₃
          ∙ ap (λ (x : List ℕ). written x 0 (header_of f b)) both
          ∙ written_front t₀ (header_of f b) (front_words ws w o ++ back_words ws) 10 refl (omega (arith, table_length_lem, length-append (front_words ws w o) (back_words ws)))
          ∙ ap (written t₀ 0) joined_is

-- ── room for the halves ──

module _ (ws w : List ℕ) (o : Opened) (tb : List ℕ) (room : length (table_by ws w o) ≤ length tb) where
  pub front_space : 10 + length (front_words ws w o) ≤ length tb
  front_space = omega (arith, table_length_lem ws w o)

  module _ (f : Front) (x : FrontAt ws w o 10 f) {t₁ : List ℕ} (e₁ : t₁ ≡ written tb 10 (front_words ws w o)) where
    same_1 : length t₁ ≡ length tb
    same_1 = ap length e₁ ∙ written_length tb 10 (front_words ws w o) front_space

    pub back_space : f.end + length (back_words ws) ≤ length t₁
    back_space = omega (arith, table_length_lem ws w o, front_end ws w o f x, same_1)

    pub header_space : {t₂ : List ℕ} → t₂ ≡ written t₁ f.end (back_words ws) → 10 ≤ length t₂
    header_space e₂ = omega (arith, same_1, front_space, ap length e₂ ∙ written_length t₁ f.end (back_words ws) back_space)

-- ── what stays in work ──

-- the places of the imports stay where the words below 6 * words do
imports_kept : (ws w z : List ℕ) (o : Opened) → Ready ws w o → Frame (λ k. k < 6 * o.layout.words) w z → linked_imports ws z o ≡ linked_imports ws w o
unfolding linked_imports each_of
imports_kept ws w z o x f = ap (λ l. length (module_in ws).imports ∷ l) (go 0 (length (module_in ws).imports) (omega arith))
  where
    one : (i : ℕ) → i < length (module_in ws).imports → linked_import ws z o i ≡ linked_import ws w o i
    one i h = unfold linked_import in
        ap (λ k. canon_type (module_in ws).types (import_at (module_in ws) i).sig ∷ k ∷ []) (f.same (5 * o.layout.words + i) (omega (arith, imports_inside ws w o x)))

    go : (i n : ℕ) → i + n ≤ length (module_in ws).imports → concat_map (linked_import ws z o) (from i n) ≡ concat_map (linked_import ws w o) (from i n)
    go i zero h = refl
    go i (suc n) h = ap₂ (λ a b. a ++ b) (one i (omega arith)) (go (suc i) n (omega arith))

module _ (ws w : List ℕ) (o : Opened) (x : Ready ws w o) {v : List ℕ} (f : Frame (λ k. k < 6 * o.layout.words) w v) where
  pub still_ready : Ready ws v o
  still_ready = ready_below ws w o x v (record { len = f.len; same = λ k h. f.same k (omega arith) })

  pub both_kept : {u : List ℕ} → Frame (λ k. k < 6 * o.layout.words) v u → Frame (λ k. k < 6 * o.layout.words) w u
  both_kept {u} g = frame_then _ _ _ w v u (λ k h. h) (λ k h. h) f g

  pub places_kept : {u : List ℕ} → Frame (λ k. k < 6 * o.layout.words) v u → linked_imports ws u o ≡ linked_imports ws w o
  places_kept {u} g = imports_kept ws w u o x (both_kept g)

-- ── lengths as code gives them ──

pub hook_place : (ws : List ℕ) (at : ℕ) {r : ℕ} → r ≡ at + 32 → r ≡ at + length (hook_section (module_in ws))
hook_place ws at e = omega (arith, e, hook_length (module_in ws))

pub canon_place : (ws : List ℕ) (at : ℕ) {r : ℕ} → r ≡ at + 1 + length (module_in ws).types → r ≡ at + length (canon_section (module_in ws))
canon_place ws at e = omega (arith, e, canon_length (module_in ws))
