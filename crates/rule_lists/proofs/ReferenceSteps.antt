-- Parameters by reference, one after the other.
use Prim.Native.Nat.{ℕ, suc, ◌+◌, ◌-◌, ◌*◌, ◌%◌, ◌≤◌, ◌<◌}
use mathlib.Core.Path.{◌≡◌, refl, sym, ap, ap₂, ◌∙◌}
use mathlib.Core.List.{List, [], ◌∷◌}
use mathlib.Core.Bool.{Bool, true, false, cond, not, ◌&&◌, ◌||◌}
use native.Mathlib.Omega.{arith}
use lib.Dec.{eqb}
use lib.ListN.{length, get_or, get_or-eq_default}
use borrow.Author.Tests.{lt-ltb, le-ltb, eq-eqb, ne_eqb}
use Rattle.lists.specs.Lists.{same}
use Rattle.blocks.specs.Blocks.{words}
use Rattle.blocks.specs.Frame.{first_words}
use Rattle.blocks.proofs.FirstWords.{length_first_words, first_words_at}
use Rattle.reader.specs.ReaderLaws.{Stands, stands_in, stands_at}
use Rattle.sheet.specs.Module.{basic, ref, dyn, is_dyn, first_ref, value_word, TypeDef, func, struct, cell, iter, coroutine, kind_word, Module, type_at}
use Rattle.sheet.specs.Decode.{type_def}
use Rattle.sheet.specs.Encode.{encode_value, encode_body, encode_type}
use Rattle.sheet.proofs.TypeCodes.{type_codes}
use Rattle.canon.specs.Canon.{same_type}
use Rattle.open_layout.specs.Opened.{module_in}
use Rattle.open_sheet.specs.declared.Opened.{Opened}
use Rattle.open_sheet.specs.Ready.{Ready, pos_at}
use Rattle.open_sheet.specs.ReadyLaws.{count_types, types_in, entry_ends}
use Rattle.imports.specs.Params.{taken_by_reference}
use Rattle.rule_lists.specs.References.{value_from, reference_fits, references_fit}

-- ── a type by its words ──

-- a cell of dyn, or another type
cell_dyn : (d : TypeDef) → same_type d (cell dyn) ≡ (eqb (kind_word d) 4 && same (encode_body d) (12 ∷ []))
unfolding same_type encode_type encode_body encode_value kind_word value_word
cell_dyn d = refl

module _ (ws : List ℕ) (p q : ℕ) where
  kind_at : (d : TypeDef) → Stands ws p (encode_type d) q → (p < length ws) × (get_or ws p 0 ≡ kind_word d)
  unfolding encode_type
  kind_at d s =
      let z : p + 0 ≡ p = omega arith in
      (omega (arith, stands_in ws s, s.end), ap (λ i. get_or ws i 0) (sym z) ∙ stands_at ws s 0 (omega arith))

  cell_at : (d : TypeDef) → kind_word d ≡ 4 → Stands ws p (encode_type d) q → (p + 1 < length ws) × (eqb (get_or ws (p + 1) 0) 12 ≡ same (encode_body d) (12 ∷ []))
  unfolding kind_word
  cell_at (func s) e k = absurd (omega (arith, e))
  cell_at (struct s) e k = absurd (omega (arith, e))
  cell_at (TypeDef.array v) e k = absurd (omega (arith, e))
  cell_at (TypeDef.map v w) e k = absurd (omega (arith, e))
  cell_at (cell v) e k = go k
    where
      and_true : (t : Bool) → t ≡ (t && true)
      and_true true = refl
      and_true false = refl

      go : Stands ws p (encode_type (cell v)) q → (p + 1 < length ws) × (eqb (get_or ws (p + 1) 0) 12 ≡ same (encode_body (cell v)) (12 ∷ []))
      go k = unfold encode_type encode_body encode_value in (
        omega (arith, stands_in ws k, k.end),
        ap (λ i. eqb i 12) (stands_at ws k 1 (omega arith)) ∙ and_true (eqb (value_word v) 12),
      )
  cell_at (iter v w) e k = absurd (omega (arith, e))
  cell_at coroutine e k = absurd (omega (arith, e))

module _ (b w : List ℕ) (o : Opened) (x : Ready (first_words b o.layout.words) w o) (v : ℕ) where
  pub taken_plain : v < 16 → eqb v 12 ≡ taken_by_reference (module_in (first_words b o.layout.words)) (value_from v)
  unfolding taken_by_reference value_from is_dyn
  taken_plain h = sym (ap (λ t. taken_by_reference (module_in (first_words b o.layout.words)) (cond t (basic v) (ref (v - first_ref)))) (lt-ltb v first_ref h))

  is_ref : 16 ≤ v → taken_by_reference (module_in (first_words b o.layout.words)) (value_from v) ≡ same_type (type_at (module_in (first_words b o.layout.words)).types (v - 16)) (cell dyn)
  unfolding taken_by_reference value_from
  is_ref h = ap (λ t. taken_by_reference (module_in (first_words b o.layout.words)) (cond t (basic v) (ref (v - first_ref)))) (le-ltb v first_ref h)

  pub taken_absent : 16 ≤ v → o.counts.types ≤ v - 16 → false ≡ taken_by_reference (module_in (first_words b o.layout.words)) (value_from v)
  unfolding type_at
  taken_absent h l =
      let ts = (module_in (first_words b o.layout.words)).types in
      let k : length ts ≤ v - 16 = omega (arith, count_types (first_words b o.layout.words) o x.opens) in
      sym (is_ref h ∙ ap (λ d. same_type d (cell dyn)) (get_or-eq_default ts coroutine {n = v - 16} k) ∙ none)
    where
      none : same_type coroutine (cell dyn) ≡ false
      none = unfold same_type encode_type encode_body encode_value kind_word value_word in refl

  module _ (l : v - 16 < o.counts.types) {p : ℕ} (e : p ≡ pos_at w o.index.types (v - 16)) where
    stands : Stands (first_words b o.layout.words) p (encode_type (type_at (module_in (first_words b o.layout.words)).types (v - 16))) (pos_at w o.index.types (v - 16 + 1))
    unfolding type_at
    stands =
        let ws = first_words b o.layout.words in
        let g = entry_ends type_def ws (module_in ws).types w o.index.types x.types coroutine (v - 16) (types_in ws w o x (v - 16) l) in
        ((type_codes ws).found p (get_or (module_in ws).types (v - 16) coroutine) (pos_at w o.index.types (v - 16 + 1)) (ap (type_def ws) e ∙ g)).stands

    pub type_inside : p < o.layout.words
    type_inside =
        let ws = first_words b o.layout.words in
        let k = kind_at ws p (pos_at w o.index.types (v - 16 + 1)) (type_at (module_in ws).types (v - 16)) stands in
        omega (arith, k.0, length_first_words b o.layout.words)

    module _ (h : 16 ≤ v) {k : ℕ} (f : k ≡ get_or (words b) p 0) where
      kind_is : k ≡ kind_word (type_at (module_in (first_words b o.layout.words)).types (v - 16))
      kind_is =
          let ws = first_words b o.layout.words in
          let j = kind_at ws p (pos_at w o.index.types (v - 16 + 1)) (type_at (module_in ws).types (v - 16)) stands in
          f ∙ sym (first_words_at b o.layout.words p type_inside) ∙ j.1

      pub taken_other : (k ≡ 4 → ⊥) → false ≡ taken_by_reference (module_in (first_words b o.layout.words)) (value_from v)
      taken_other n =
          let d = type_at (module_in (first_words b o.layout.words)).types (v - 16) in
          sym (is_ref h ∙ cell_dyn d ∙ ap (λ t. t && same (encode_body d) (12 ∷ [])) (ne_eqb (kind_word d) 4 (λ z. n (kind_is ∙ z))))

      pub taken_cell : k ≡ 4 → {j : ℕ} → j ≡ get_or (words b) (p + 1) 0 → eqb j 12 ≡ taken_by_reference (module_in (first_words b o.layout.words)) (value_from v)
      taken_cell z {j} g =
          let ws = first_words b o.layout.words in
          let d = type_at (module_in ws).types (v - 16) in
          let y : kind_word d ≡ 4 = sym kind_is ∙ z in
          let c = cell_at ws p (pos_at w o.index.types (v - 16 + 1)) d y stands in
          let i : p + 1 < o.layout.words = omega (arith, c.0, length_first_words b o.layout.words) in
          ap (λ u. eqb u 12) (g ∙ sym (first_words_at b o.layout.words (p + 1) i)) ∙ c.1
          ∙ sym (is_ref h ∙ cell_dyn d ∙ ap (λ t. t && same (encode_body d) (12 ∷ [])) (eq-eqb (kind_word d) 4 y))

-- ── a parameter ──

module _ (m : Module) (f v : ℕ) where
  pub reference_none : (f % 2 ≡ 1 → ⊥) → true ≡ reference_fits m f v
  unfolding reference_fits
  reference_none h = sym (ap (λ t. not t || taken_by_reference m (value_from v)) (ne_eqb (f % 2) 1 h))

  pub reference_some : {r : Bool} → f % 2 ≡ 1 → r ≡ taken_by_reference m (value_from v) → r ≡ reference_fits m f v
  unfolding reference_fits
  reference_some h e = e ∙ sym (ap (λ t. not t || taken_by_reference m (value_from v)) (eq-eqb (f % 2) 1 h))

-- ── all ──

-- count - i are ahead, from p and q on
pub record Fitting (m : Module) (ws : List ℕ) (n count from values i p q : ℕ) : Type 0 where
  pub inside : p + 2 * (count - i) ≤ n
  pub inside_values : q + (count - i) ≤ n
  pub same : references_fit m ws count from values ≡ references_fit m ws (count - i) p q

module _ (m : Module) (ws : List ℕ) (n count from values : ℕ) where
  pub fitting_start : from + 2 * count ≤ n → values + count ≤ n → Fitting m ws n count from values 0 from values
  fitting_start h k = let z : count - 0 ≡ count = omega arith in record {
    inside = omega (arith, h);
    inside_values = omega (arith, k);
    same = rw z refl;
  }

  module _ (i p q : ℕ) (x : Fitting m ws n count from values i p q) where
    pub fitting_inside : p + 2 * (count - i) ≤ n
    fitting_inside = x.inside

    pub fitting_values : q + (count - i) ≤ n
    fitting_values = x.inside_values

    pub fitting_end : count ≤ i → true ≡ references_fit m ws count from values
    unfolding references_fit
    fitting_end h = let z : count - i ≡ 0 = omega arith in sym (x.same ∙ ap (λ k. references_fit m ws k p q) z)

    module _ (h : i < count) {a b : ℕ} (e : a ≡ get_or ws p 0) (f : b ≡ get_or ws q 0) {r : Bool} where
      ahead : r ≡ reference_fits m a b →
          references_fit m ws count from values ≡ (r && references_fit m ws (count - (i + 1)) (p + 2) (q + 1))
      unfolding references_fit
      ahead g =
          let z : count - i ≡ suc (count - (i + 1)) = omega arith in
          x.same ∙ ap (λ k. references_fit m ws k p q) z
          ∙ ap (λ t. t && references_fit m ws (count - (i + 1)) (p + 2) (q + 1)) (sym (g ∙ ap₂ (reference_fits m) e f))

      pub fitting_stop : r ≡ false → r ≡ reference_fits m a b → false ≡ references_fit m ws count from values
      fitting_stop k g = sym (ahead g ∙ ap (λ t. t && references_fit m ws (count - (i + 1)) (p + 2) (q + 1)) k)

      pub fitting_next : r ≡ true → r ≡ reference_fits m a b → Fitting m ws n count from values (i + 1) (p + 2) (q + 1)
      fitting_next k g = record {
        inside = omega (arith, x.inside);
        inside_values = omega (arith, x.inside_values);
        same = ahead g ∙ ap (λ t. t && references_fit m ws (count - (i + 1)) (p + 2) (q + 1)) k;
      }

pub ruleset fitting = (fitting_start, fitting_end, fitting_stop, fitting_next)
