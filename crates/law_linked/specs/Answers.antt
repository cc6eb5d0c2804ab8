-- The family query on the words that load left: the spans' answer.
use Rattle.std.specs.Prelude.{◌≡◌, Bool, true, false, ◌&&◌, ℕ, suc, ◌+◌, ◌*◌, ◌≤◌, ◌<◌, length}
use Rattle.std.proofs.Math.Path.{refl, sym, ap}
use Rattle.std.proofs.Common.{◌∙◌, arith, lt-ltb, le-ltb, le-leb}
use Rattle.std.proofs.Math.Bool.{cond}
use mathlib.Core.List.{List, [], ◌∷◌, ◌++◌}
use Rattle.std.proofs.Math.Decide.{dec_lt}
use Rattle.std.proofs.Math.Dec.{eqb, leb, ltb}
use Rattle.std.proofs.Math.ListN.{get_or, length-append}
use Rattle.lists.specs.ListLaws.{T_of, both, and_false}
use Rattle.table.proofs.TableLaws.{span_at, span_section_length}
use Rattle.reader.specs.Reader.{encode_list}
use Rattle.sheet.specs.Module.{Module, type_at, is_struct}
use Rattle.host.specs.Host.{HostFn}
use Rattle.parents.specs.Forest.{chain_length}
use Rattle.parents.specs.Parents.{parents_faults}
use Rattle.spans.specs.Spans.{pre, post, no_pre, span_of, descends_by_span}
use Rattle.table.specs.Records.{type_record, func_record, import_record}
use Rattle.table.specs.Table.{table_edition, header_words, hook_section, canon_section, global_section, reference_section, span_section, sections, joined, table_words}
use Rattle.descends.specs.Descends.{not_linked, table_length, spans_start, span_count, spans_end, is_linked}
use Rattle.descends.specs.Descends.{pre_in, post_in, length_in, if_known, is_within, descends}
use Rattle.descends.proofs.DescendsLaws.{known_is, unknown_is}
use Rattle.sheet.specs.TypeLaws.{struct_known}
use Rattle.law_forest.proofs.AcceptedLaws.{span_fits}
use Rattle.law_linked.specs.Sections.{body_of, body_last, table_length_lem, joined_length, start_word, section_word}

-- ── tests ──

no_second : (p q r s : Bool) → q ≡ false → p && q && r && s ≡ false
no_second p q r s e = ap (λ (x : Bool). p && x && r && s) e ∙ ap (λ (x : Bool). x && r && s) (and_false p)

no_last : (p q r s : Bool) → s ≡ false → p && q && r && s ≡ false
no_last p q r s e = ap (λ (x : Bool). p && q && r && x) e ∙ and_false (p && q && r)

-- ── the table ──

module _ (most : ℕ) (hosts : List HostFn) (m : Module) (rest : List ℕ) where
  -- the sections before the spans
  abbrev earlier : List (List ℕ)
  earlier =
      encode_list (func_record m) m.funcs
      ∷ encode_list (type_record m) m.types
      ∷ encode_list (import_record hosts m) m.imports
      ∷ hook_section m
      ∷ canon_section m
      ∷ global_section m
      ∷ reference_section m
      ∷ []

  abbrev left : List ℕ
  left = table_words most hosts m ++ rest

  spans_start_lem : spans_start left ≡ header_words + length (body_of earlier)
  unfolding spans_start table_words sections
  spans_start_lem = start_word earlier (span_section most m) [] refl rest

  span_word : (i : ℕ) → i < 1 + 3 * length m.types →
      get_or left (header_words + length (body_of earlier) + i) 0 ≡ get_or (span_section most m) i 0
  unfolding table_words sections
  span_word i h = section_word earlier (span_section most m) [] refl rest i (omega (arith, span_section_length most m))

  pub span_count_lem : span_count left ≡ length m.types
  unfolding span_count span_section
  span_count_lem = ap (λ (k : ℕ). get_or left k 0) (spans_start_lem ∙ omega arith) ∙ span_word 0 (omega arith)

  whole_length : header_words + length (body_of (sections most hosts m)) ≡ header_words + length (body_of earlier) + 1 + 3 * length m.types
  unfolding sections
  whole_length = ap (λ (k : ℕ). header_words + k) (body_last earlier (span_section most m)) ∙ omega (arith, span_section_length most m)

  table_end : table_length left ≡ header_words + length (body_of (sections most hosts m))
  unfolding table_length table_words
  table_end = table_length_lem (sections most hosts m) rest

  left_length : length left ≡ header_words + length (body_of (sections most hosts m)) + length rest
  unfolding table_words sections
  left_length = omega (arith, length-append (table_words most hosts m) rest, joined_length (sections most hosts m) refl)

  edition_word_lem : get_or left 0 0 ≡ table_edition
  unfolding table_words joined
  edition_word_lem = refl

  spans_end_lem : spans_end left ≡ table_length left
  unfolding spans_end
  spans_end_lem = omega (arith, spans_start_lem, span_count_lem, table_end, whole_length)

  -- never 25
  pub linked : is_linked left ≡ true
  unfolding is_linked
  linked = both (both (both (both
      (le-leb header_words (length left) (omega (arith, left_length)))
      (ap (λ (k : ℕ). eqb k table_edition) edition_word_lem))
      (le-leb (table_length left) (length left) (omega (arith, table_end, left_length))))
      (le-leb header_words (spans_start left) (omega (arith, spans_start_lem))))
      (le-leb (spans_end left) (table_length left) (omega (arith, spans_end_lem)))

  -- so the answer is not 25
  pub if_linked : {A : Type 0} (x y : A) → cond (is_linked left) x y ≡ x
  if_linked x y = ap (λ (b : Bool). cond b x y) linked

  span_word_at : (t j : ℕ) → t < length m.types → j < 3 →
      get_or left (spans_start left + 1 + 3 * t + j) 0 ≡ get_or (span_of most m.types t (is_struct (type_at m.types t))) j 0
  unfolding span_section
  span_word_at t j h l =
      ap (λ (k : ℕ). get_or left k 0) (omega (arith, spans_start_lem))
      ∙ span_word (suc (3 * t + j)) (omega arith)
      ∙ span_at most m.types t j h l

  pre_word : (t : ℕ) → t < length m.types → pre_in left t ≡ get_or (span_of most m.types t (is_struct (type_at m.types t))) 0 0
  unfolding pre_in
  pre_word t h = ap (λ (k : ℕ). get_or left k 0) (omega arith) ∙ span_word_at t 0 h (omega arith)

  post_word : (t : ℕ) → t < length m.types → post_in left t ≡ get_or (span_of most m.types t (is_struct (type_at m.types t))) 1 0
  unfolding post_in
  post_word t h = ap (λ (k : ℕ). get_or left k 0) (omega arith) ∙ span_word_at t 1 h (omega arith)

  length_word_lem : (t : ℕ) → t < length m.types → length_in left t ≡ get_or (span_of most m.types t (is_struct (type_at m.types t))) 2 0
  unfolding length_in
  length_word_lem t h = ap (λ (k : ℕ). get_or left k 0) (omega arith) ∙ span_word_at t 2 h (omega arith)

  pub struct_length : (t : ℕ) → is_struct (type_at m.types t) ≡ true → length_in left t ≡ chain_length most m.types t
  unfolding span_of
  struct_length t s = length_word_lem t (struct_known m.types t s) ∙ ap (λ (b : Bool). get_or (span_of most m.types t b) 2 0) s

  pub other_length : (t : ℕ) → t < length m.types → is_struct (type_at m.types t) ≡ false → length_in left t ≡ 0
  unfolding span_of
  other_length t h s = length_word_lem t h ∙ ap (λ (b : Bool). get_or (span_of most m.types t b) 2 0) s

  -- a value that stands for each struct type, and 0 for any other number
  pub known_value : (t x y : ℕ) → (is_struct (type_at m.types t) ≡ true → x ≡ y) →
      (t < length m.types → is_struct (type_at m.types t) ≡ false → x ≡ 0) → (is_struct (type_at m.types t) ≡ false → y ≡ 0) →
      if_known left t x ≡ y
  known_value t x y f g h = go (dec_lt t (length m.types)) (is_struct (type_at m.types t)) refl
    where
      go : Dec (t < length m.types) → (b : Bool) → is_struct (type_at m.types t) ≡ b → if_known left t x ≡ y
      go (yes k) true s = sym (known_is left t x (sym span_count_lem) k) ∙ f s
      go (yes k) false s = sym (known_is left t x (sym span_count_lem) k) ∙ g k s ∙ sym (h s)
      go (no k) true s = absurd (k (struct_known m.types t s))
      go (no k) false s = sym (unknown_is left t x (sym span_count_lem) (omega arith)) ∙ sym (h s)

  -- ── the answer ──

  module _ (kept : parents_faults most m ≡ []) (one : 1 ≤ most) (few : length m.types ≤ no_pre) where
    known : (t : ℕ) → t < length m.types → ltb t (span_count left) ≡ true
    known t h = lt-ltb t (span_count left) (omega (arith, span_count_lem))

    unknown : (t : ℕ) → length m.types ≤ t → ltb t (span_count left) ≡ false
    unknown t h = le-ltb t (span_count left) (omega (arith, span_count_lem))

    pub struct_pre : (t : ℕ) → is_struct (type_at m.types t) ≡ true → pre_in left t ≡ pre most m.types t
    unfolding span_of
    struct_pre t s = pre_word t (struct_known m.types t s) ∙ ap (λ (b : Bool). get_or (span_of most m.types t b) 0 0) s

    pub struct_post : (t : ℕ) → is_struct (type_at m.types t) ≡ true → post_in left t ≡ post most m.types t
    unfolding span_of
    struct_post t s = post_word t (struct_known m.types t s) ∙ ap (λ (b : Bool). get_or (span_of most m.types t b) 1 0) s

    other_pre : (t : ℕ) → t < length m.types → is_struct (type_at m.types t) ≡ false → pre_in left t ≡ no_pre
    unfolding span_of
    other_pre t h s = pre_word t h ∙ ap (λ (b : Bool). get_or (span_of most m.types t b) 0 0) s

    pub other_post : (t : ℕ) → t < length m.types → is_struct (type_at m.types t) ≡ false → post_in left t ≡ 0
    unfolding span_of
    other_post t h s = post_word t h ∙ ap (λ (b : Bool). get_or (span_of most m.types t b) 1 0) s

    -- a number that is no struct descends from nothing, and nothing from it
    not_above : (t a : ℕ) → is_struct (type_at m.types a) ≡ false → Dec (a < length m.types) → is_within left t a ≡ false
    unfolding is_within
    not_above t a u (no h) = no_second (ltb t (span_count left)) (ltb a (span_count left)) (leb (pre_in left a) (pre_in left t)) (ltb (pre_in left t) (post_in left a)) (unknown a (omega arith))
    not_above t a u (yes h) = no_last (ltb t (span_count left)) (ltb a (span_count left)) (leb (pre_in left a) (pre_in left t)) (ltb (pre_in left t) (post_in left a))
        (le-ltb (pre_in left t) (post_in left a) (omega (arith, other_post a h u)))

    not_below : (t a : ℕ) → is_struct (type_at m.types t) ≡ false → is_struct (type_at m.types a) ≡ true → Dec (t < length m.types) → is_within left t a ≡ false
    unfolding is_within
    not_below t a s u (no h) = ap (λ (x : Bool). x && ltb a (span_count left) && leb (pre_in left a) (pre_in left t) && ltb (pre_in left t) (post_in left a)) (unknown t (omega arith))
    not_below t a s u (yes h) = no_last (ltb t (span_count left)) (ltb a (span_count left)) (leb (pre_in left a) (pre_in left t)) (ltb (pre_in left t) (post_in left a))
        (le-ltb (pre_in left t) (post_in left a) (omega (arith, other_pre t h s, struct_post a u, span_fits most one m kept a (T_of (is_struct (type_at m.types a)) u))))

    within_both : (t a : ℕ) → is_struct (type_at m.types t) ≡ true → is_struct (type_at m.types a) ≡ true → is_within left t a ≡ descends_by_span most m.types t a
    unfolding is_within descends_by_span
    within_both t a s u =
        let p : ltb t (span_count left) ≡ is_struct (type_at m.types t) = known t (struct_known m.types t s) ∙ sym s in
        let q : ltb a (span_count left) ≡ is_struct (type_at m.types a) = known a (struct_known m.types a u) ∙ sym u in
        λ i. p i && q i && leb (struct_pre a u i) (struct_pre t s i) && ltb (struct_pre t s i) (struct_post a u i)

    spans_no_second : (t a : ℕ) → is_struct (type_at m.types a) ≡ false → descends_by_span most m.types t a ≡ false
    unfolding descends_by_span
    spans_no_second t a u = no_second (is_struct (type_at m.types t)) (is_struct (type_at m.types a)) (leb (pre most m.types a) (pre most m.types t)) (ltb (pre most m.types t) (post most m.types a)) u

    spans_no_first : (t a : ℕ) → is_struct (type_at m.types t) ≡ false → descends_by_span most m.types t a ≡ false
    unfolding descends_by_span
    spans_no_first t a s = ap (λ (x : Bool). x && is_struct (type_at m.types a) && leb (pre most m.types a) (pre most m.types t) && ltb (pre most m.types t) (post most m.types a)) s

    pub within : (t a : ℕ) (b c : Bool) → is_struct (type_at m.types t) ≡ b → is_struct (type_at m.types a) ≡ c →
        is_within left t a ≡ descends_by_span most m.types t a
    within t a true true s u = within_both t a s u
    within t a false true s u = not_below t a s u (dec_lt t (length m.types)) ∙ sym (spans_no_first t a s)
    within t a true false s u = not_above t a u (dec_lt a (length m.types)) ∙ sym (spans_no_second t a u)
    within t a false false s u = not_above t a u (dec_lt a (length m.types)) ∙ sym (spans_no_second t a u)

    -- 1 where the spans say so, else 0
    pub answered : (t a : ℕ) → descends left t a ≡ cond (descends_by_span most m.types t a) 1 0
    unfolding descends
    answered t a = λ i. cond (linked i) (cond (within t a (is_struct (type_at m.types t)) (is_struct (type_at m.types a)) refl refl i) 1 0) not_linked
