-- Canonical numbers of strings and of types, written after their count.
use Prim.Native.Nat.{ℕ, suc, ◌+◌, ◌*◌, ◌<◌}
use mathlib.Core.Path.{◌≡◌, refl, sym, ap, ◌∙◌}
use mathlib.Core.List.{List, []}
use native.Mathlib.Omega.{arith}
use lib.ListN.{length, get_or, take, length-take}
use Rattle.lists.specs.Lists.{concat_map}
use Rattle.lists.specs.ListLaws.{length_concat_map}
use Rattle.blocks.specs.Blocks.{words}
use Rattle.blocks.specs.Frame.{first_words}
use Rattle.blocks.proofs.FirstWords.{length_first_words, first_words_at}
use Rattle.error.specs.declared.LoadErrorKind.{LoadErrorKind}
use Rattle.error.specs.declared.What.TheVariants.{Types, Strings}
use Rattle.error.specs.Answer.{in_range}
use Rattle.law_faults.specs.Empty.{range_empty, every}
use Rattle.reader.specs.Reader.{got, word, list_of, encode_words}
use Rattle.reader.specs.ReaderLaws.{free, one_word, word_codes, words_codes, stands_in}
use Rattle.reader.proofs.ReadLaws.{read_at, listed_at}
use Rattle.reader.specs.StepLaws.{word_read}
use Rattle.reader.specs.Value.{Whole, value_of}
use Rattle.reader.specs.ValueLaws.{whole_inv, value_got, list_within}
use Rattle.canon.specs.Canon.{canon_string, canon_type}
use Rattle.types.specs.Types.{string_faults}
use Rattle.open_layout.specs.Opened.{module_in}
use Rattle.open_sheet.specs.declared.Opened.{Opened}
use Rattle.open_sheet.specs.Ready.{Ready, pos_at}
use Rattle.open_sheet.specs.ReadyLaws.{strings_inside, types_inside, string_canon, type_canon}
use Rattle.law_judging.specs.Judging.{list_faults}

-- ── a list of numbers, each a word ──

module _ (b : List ℕ) (m at : ℕ) (h : Whole (list_of word (first_words b m) at)) where
  pub numbers_count : {c : ℕ} → c ≡ get_or (words b) at 0 → c ≡ length (value_of [] (list_of word (first_words b m) at))
  numbers_count k = whole_inv (list_of word (first_words b m) at) h λ xs q e.
      let z : at ≡ at + 0 = omega arith in
      k ∙ sym (first_words_at b m at (list_within word b m at h)) ∙ ap (λ i. get_or (first_words b m) i 0) z
      ∙ read_at (first_words b m) (list_of word) encode_words free (words_codes (first_words b m)) at xs q e 0 (omega arith)
      ∙ ap length (sym (value_got [] e))

  module _ (i : ℕ) (l : i < length (value_of [] (list_of word (first_words b m) at))) where
    number_got : {C : Type 0} → ((q : ℕ) → word (first_words b m) (at + 1 + i) ≡ got (get_or (value_of [] (list_of word (first_words b m) at)) i 0) q → C) → C
    number_got k = whole_inv (list_of word (first_words b m) at) h λ xs q e.
        let v : value_of [] (list_of word (first_words b m) at) ≡ xs = value_got [] e in
        let d : i < length xs = omega (arith, ap length v) in
        let z : at + 1 + i ≡ at + 1 + length (concat_map one_word (take i xs)) =
        omega (arith, length_concat_map one_word 1 (λ v. refl) (take i xs), length-take i xs) in
        k (at + 1 + length (concat_map one_word (take (suc i) xs)))
        (ap (word (first_words b m)) z ∙ listed_at (first_words b m) word one_word free (word_codes (first_words b m)) at xs q e i 0 d
        ∙ ap (λ ys. got (get_or ys i 0) (at + 1 + length (concat_map one_word (take (suc i) xs)))) (sym v))

    pub number_in : at + 1 + i < m
    number_in = number_got λ q e.
        let s = ((word_codes (first_words b m)).found (at + 1 + i) _ q e).stands in
        omega (arith, stands_in (first_words b m) s, s.end, length_first_words b m)

    number_word : {c : ℕ} → c ≡ get_or (words b) (at + 1 + i) 0 → c ≡ get_or (value_of [] (list_of word (first_words b m) at)) i 0
    number_word k = number_got λ q e. sym (value_got 0 (word_read b m (at + 1 + i) number_in k)) ∙ value_got 0 e

    -- a number that was judged in range
    number_clear : (faults : ℕ → List LoadErrorKind) {c : ℕ} → c ≡ get_or (words b) (at + 1 + i) 0 → list_faults faults (list_of word (first_words b m) at) ≡ [] → faults c ≡ []
    unfolding list_faults
    number_clear faults k e = ap faults (number_word k) ∙ (every 0 faults (value_of [] (list_of word (first_words b m) at))).0 e i l

-- ── one canonical number ──

module _ (b w : List ℕ) (o : Opened) (x : Ready (first_words b o.layout.words) w o) (at : ℕ) (h : Whole (list_of word (first_words b o.layout.words) at))
    (i : ℕ) (l : i < length (value_of [] (list_of word (first_words b o.layout.words) at))) {c : ℕ} (k : c ≡ get_or (words b) (at + 1 + i) 0) where
  module _ (f : list_faults (string_faults (module_in (first_words b o.layout.words))) (list_of word (first_words b o.layout.words) at) ≡ []) where
    name_known : c < length (module_in (first_words b o.layout.words)).strings
    unfolding string_faults
    name_known =
        (range_empty Strings (length (module_in (first_words b o.layout.words)).strings) c).0
        (number_clear b o.layout.words at h i l (string_faults (module_in (first_words b o.layout.words))) k f)

    pub name_room : o.layout.words + c < length w
    name_room = omega (arith, name_known, strings_inside (first_words b o.layout.words) w o x, x.room)

    pub name_canon : {r : ℕ} → r ≡ pos_at w o.layout.words c
        → r ≡ canon_string (module_in (first_words b o.layout.words)).strings (get_or (value_of [] (list_of word (first_words b o.layout.words) at)) i 0)
    name_canon e =
        e ∙ string_canon (first_words b o.layout.words) w o x c name_known
        ∙ ap (canon_string (module_in (first_words b o.layout.words)).strings) (number_word b o.layout.words at h i l k)

  module _ (f : list_faults (in_range Types (length (module_in (first_words b o.layout.words)).types)) (list_of word (first_words b o.layout.words) at) ≡ []) where
    ref_known : c < length (module_in (first_words b o.layout.words)).types
    ref_known =
        (range_empty Types (length (module_in (first_words b o.layout.words)).types) c).0
        (number_clear b o.layout.words at h i l (in_range Types (length (module_in (first_words b o.layout.words)).types)) k f)

    pub ref_room : 2 * o.layout.words + c < length w
    ref_room = omega (arith, ref_known, types_inside (first_words b o.layout.words) w o x, x.room)

    pub ref_canon : {r : ℕ} → r ≡ pos_at w (2 * o.layout.words) c
        → r ≡ canon_type (module_in (first_words b o.layout.words)).types (get_or (value_of [] (list_of word (first_words b o.layout.words) at)) i 0)
    ref_canon e =
        e ∙ type_canon (first_words b o.layout.words) w o x c ref_known
        ∙ ap (canon_type (module_in (first_words b o.layout.words)).types) (number_word b o.layout.words at h i l k)

-- ── which numbers there are ──

pub number_below : (b : List ℕ) (m from : ℕ) (g : Whole (list_of word (first_words b m) from)) (n : ℕ) (c : n ≡ get_or (words b) from 0) (i : ℕ) → i < n
    → i < length (value_of [] (list_of word (first_words b m) from))
number_below b m from g n c i l = omega (arith, numbers_count b m from g c)
