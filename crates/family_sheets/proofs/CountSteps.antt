-- The count of a list of types, one law for each return and turn.
use Prim.Native.Nat.{ℕ, suc, ◌+◌, ◌-◌, ◌≤◌, ◌<◌}
use mathlib.Core.Path.{◌≡◌, refl, sym, ap, ◌∙◌}
use mathlib.Core.List.{List, ◌∷◌}
use mathlib.Core.Bool.{Bool, true, false, cond}
use Rattle.std.specs.Prelude.{Option, None, Some}
use Rattle.std.specs.Prelude.{Option, None, Some}
use native.Mathlib.Omega.{arith}
use lib.ListN.{length, get_or}
use borrow.Author.Tests.{eq-eqb, ne_eqb}
use Rattle.lists.specs.Lists.{keep}
use Rattle.law_counting.specs.Counting.{tick}
use Rattle.blocks.specs.Blocks.{words}
use Rattle.blocks.specs.Frame.{first_words}
use Rattle.blocks.proofs.FirstWords.{length_first_words, first_words_at}
use Rattle.reader.specs.Reader.{Got, broken, got, and_then, word, many, list_of}
use Rattle.reader.specs.Step.{step_of}
use Rattle.reader.specs.StepLaws.{arrived, stuck}
use Rattle.reader.specs.ReaderLaws.{stands_in, stands_at}
use Rattle.sheet_reader.specs.Taken.{taken_of}
use Rattle.sheet_reader.specs.TakenLaws.{word_taken, none_taken}
use Rattle.sheet.specs.Module.{TypeDef, kind_word, is_struct}
use Rattle.sheet.specs.Decode.{type_def}
use Rattle.sheet.specs.Encode.{encode_type}
use Rattle.sheet.proofs.TypeCodes.{type_codes}
use Rattle.open_layout.specs.declared.Layout.{Layout}
use Rattle.open_layout.specs.Layout.{layout}
use Rattle.open_layout.specs.LayoutLaws.{layout_broken}
use Rattle.open_index.specs.SheetIndex.{intact}
use Rattle.families.specs.Families.{struct_count}
use Rattle.families.specs.Counted.{counted_of, structs_in}
use Rattle.family_sheets.specs.Declared.{plus_structs, structs_at, Counts}

-- ── one type ──

one_more : (d : TypeDef) (ts : List TypeDef) → struct_count (d ∷ ts) ≡ tick (is_struct d) + struct_count ts
unfolding struct_count
one_more d ts = go (is_struct d)
  where
    go : (b : Bool) → length (cond b (d ∷ keep is_struct ts) (keep is_struct ts)) ≡ tick b + length (keep is_struct ts)
    go true = omega arith
    go false = omega arith

-- a type begins with the word of its kind
kind_read : (b : List ℕ) (n p : ℕ) (d : TypeDef) (q k : ℕ) → type_def (first_words b n) p ≡ got d q → k ≡ get_or (words b) p 0 → kind_word d ≡ k
unfolding encode_type
kind_read b n p d q k e f =
    let ws = first_words b n in
    let s = ((type_codes ws).found p d q e).stands in
    let l : p < n = omega (arith, s.end, stands_in ws s, length_first_words b n) in
    let z : p + 0 ≡ p = omega arith in
    sym (stands_at ws s 0 (omega arith)) ∙ ap (λ i. get_or ws i 0) z ∙ first_words_at b n p l ∙ sym f

-- ── the list ──

plus_none : (n : ℕ) (g : Got (List TypeDef)) → g ≡ broken → None ≡ plus_structs n g
unfolding plus_structs
plus_none n g e = sym (ap (plus_structs n) e)

plus_more : (n : ℕ) (d : TypeDef) (g : Got (List TypeDef)) →
    plus_structs n (and_then g (λ ts q. got (d ∷ ts) q)) ≡ plus_structs (n + tick (is_struct d)) g
unfolding plus_structs
plus_more n d broken = refl
plus_more n d (got ts q) = ap Some (omega (arith, one_more d ts))

module _ (ws : List ℕ) (at : ℕ) {r : Option (ℕ × ℕ)} where
  pub counts_start : (w q : ℕ) → w < 4294967296 → r ≡ Some (w, q) → r ≡ taken_of (word ws at) → Counts ws at (w - 0) q 0
  unfolding structs_at list_of
  counts_start w q h e k = let z : w - 0 ≡ w = omega arith in record { same = rw (word_taken (word ws at) e k, z) refl; few = omega arith }

  pub counts_none : r ≡ None → r ≡ taken_of (word ws at) → None ≡ structs_at ws at
  unfolding structs_at list_of
  counts_none e k = rw (none_taken (word ws at) e k) (plus_none 0 broken refl)

module _ (b : List ℕ) (m at end i p n : ℕ) (c : Counts (first_words b m) at (end - i) p n) (h : i < end) where
  abbrev ws : List ℕ
  ws = first_words b m

  z : end - i ≡ suc (end - (i + 1))
  z = omega arith

  pub counts_stop : {r : Option ℕ} → r ≡ None → r ≡ step_of (type_def ws p) → None ≡ structs_at ws at
  unfolding many
  counts_stop e k =
      sym
      (c.same
      ∙ ap (λ k. plus_structs n (many k type_def ws p)) z
      ∙ rw (stuck (type_def ws p) e k) (sym (plus_none n broken refl)))

  counts_next : (d : TypeDef) (q : ℕ) → type_def ws p ≡ got d q →
      structs_at ws at ≡ plus_structs (n + tick (is_struct d)) (many (end - (i + 1)) type_def ws q)
  unfolding many
  counts_next d q g = c.same ∙ ap (λ k. plus_structs n (many k type_def ws p)) z ∙ rw g (plus_more n d (many (end - (i + 1)) type_def ws q))

  pub counts_yes : (q : ℕ) {r : Option ℕ} → r ≡ Some q → r ≡ step_of (type_def ws p) → {k : ℕ} → k ≡ get_or (words b) p 0 → k ≡ 1 →
      Counts ws at (end - (i + 1)) q (n + 1)
  unfolding is_struct
  counts_yes q e f {k} g y =
      arrived (type_def ws p) e f λ d j.
      let t : is_struct d ≡ true = eq-eqb (kind_word d) 1 (kind_read b m p d q k j g ∙ y) in
      record {
        same = counts_next d q j ∙ ap (λ x. plus_structs (n + tick x) (many (end - (i + 1)) type_def ws q)) t;
        few = omega (arith, c.few);
      }

  pub counts_no : (q : ℕ) {r : Option ℕ} → r ≡ Some q → r ≡ step_of (type_def ws p) → {k : ℕ} → k ≡ get_or (words b) p 0 → (k ≡ 1 → ⊥) →
      Counts ws at (end - (i + 1)) q n
  unfolding is_struct
  counts_no q e f {k} g x =
      arrived (type_def ws p) e f λ d j.
      let t : is_struct d ≡ false = ne_eqb (kind_word d) 1 (λ y. x (sym (kind_read b m p d q k j g) ∙ y)) in
      let y : n + 0 ≡ n = omega arith in
      record {
        same =
            counts_next d q j
            ∙ ap (λ x. plus_structs (n + tick x) (many (end - (i + 1)) type_def ws q)) t
            ∙ ap (λ x. plus_structs x (many (end - (i + 1)) type_def ws q)) y;
        few = omega (arith, c.few);
      }

pub counts_end : (ws : List ℕ) (at end i p n : ℕ) → Counts ws at (end - i) p n → end ≤ i → Some n ≡ structs_at ws at
unfolding many plus_structs struct_count
counts_end ws at end i p n c h =
    let y : end - i ≡ 0 = omega arith in
    let x : n ≡ n + 0 = omega arith in
    ap Some x ∙ sym (c.same ∙ ap (λ k. plus_structs n (many k type_def ws p)) y)

pub ruleset counting = (counts_start, counts_none, counts_stop, counts_yes, counts_no, counts_end)

-- ── the sheet ──

pub count_intact : (sheet : List ℕ) (l : Layout) {r : Option Layout} {n : Option ℕ} → r ≡ Some l → r ≡ layout sheet →
    n ≡ structs_at (first_words sheet l.words) l.types → n ≡ structs_in sheet
unfolding structs_in counted_of structs_at plus_structs
count_intact sheet l {r} {n} e k q =
    let i = intact sheet l (sym k ∙ e) in
    q ∙ ap (plus_structs 0) i.located.types ∙ ap Some (omega arith) ∙ sym (ap counted_of i.holds)

pub count_broken : (sheet : List ℕ) {r : Option Layout} → r ≡ None → r ≡ layout sheet → None ≡ structs_in sheet
unfolding structs_in counted_of
count_broken sheet e k = sym (ap counted_of ((layout_broken sheet).0 (sym k ∙ e)))
