-- Whether value types are dyn, word by word.
use Prim.Native.Nat.{ℕ, ◌+◌, ◌-◌, ◌≤◌, ◌<◌}
use mathlib.Core.Path.{◌≡◌, refl, sym, ap, ◌∙◌}
use mathlib.Core.List.{List, [], ◌∷◌}
use mathlib.Core.Bool.{Bool, true, false, ◌&&◌}
use native.Mathlib.Omega.{arith}
use lib.Dec.{eqb}
use lib.ListN.{length, get_or}
use borrow.Author.Tests.{eq-eqb, eqb-true}
use Rattle.lists.specs.Lists.{all_of}
use Rattle.blocks.specs.Blocks.{words}
use Rattle.blocks.specs.Frame.{first_words}
use Rattle.blocks.proofs.FirstWords.{length_first_words, first_words_at}
use Rattle.reader.specs.Reader.{got, many, list_of}
use Rattle.reader.specs.ReaderLaws.{stands_in}
use Rattle.reader.proofs.ReadLaws.{read_at}
use Rattle.reader.specs.Value.{Whole, value_of}
use Rattle.reader.specs.ValueLaws.{whole_inv, got_whole, value_got, list_whole, list_value, many_first}
use Rattle.sheet.specs.Module.{ValueType, is_dyn}
use Rattle.sheet.specs.Decode.{value_type}
use Rattle.sheet.specs.Encode.{encode_value}
use Rattle.sheet.specs.Coded.{coded_value}
use Rattle.sheet.proofs.TypeCodes.{value_codes}
use Rattle.imports.specs.Imports.{one_dyn}
use Rattle.rule_signatures.specs.SignatureLaws.{dyn_word}
use Rattle.rule_signatures.proofs.SigSteps.{values_count}

module _ (b : List ℕ) (n at : ℕ) {v : ValueType} {q : ℕ} (e : value_type (first_words b n) at ≡ got v q) where
  value_within : at < n
  unfolding encode_value
  value_within =
      let s = ((value_codes (first_words b n)).found at v q e).stands in
      omega (arith, stands_in (first_words b n) s, s.end, length_first_words b n)

  value_end : q ≡ at + 1
  unfolding encode_value
  value_end = ((value_codes (first_words b n)).found at v q e).stands.end

  value_dyn : eqb (get_or (words b) at 0) 12 ≡ is_dyn v
  unfolding encode_value
  value_dyn =
      let z : at ≡ at + 0 = omega arith in
      ap (λ w. eqb w 12)
      (sym (first_words_at b n at value_within) ∙ ap (λ k. get_or (first_words b n) k 0) z
      ∙ read_at (first_words b n) value_type encode_value coded_value (value_codes (first_words b n)) at v q e 0 (omega arith))
      ∙ dyn_word v

-- ── one ──

module _ (b : List ℕ) (n at : ℕ) (h : Whole (list_of value_type (first_words b n) at)) {c : ℕ} (e : c ≡ get_or (words b) at 0) where
  -- the value types that are there
  module _ (l : 0 < c) where
    first : {C : Type 0} → ((v : ValueType) (vs : List ValueType) (q : ℕ) → value_type (first_words b n) (at + 1) ≡ got v (at + 2)
        → many (c - 1) value_type (first_words b n) (at + 2) ≡ got vs q → value_of [] (list_of value_type (first_words b n) at) ≡ v ∷ vs → C) → C
    first k = many_first value_type (first_words b n) c (at + 1) (list_whole value_type b n at h e) l λ v p vs q e₁ e₂ e₃.
        let y : p ≡ at + 2 = omega (arith, value_end b n (at + 1) e₁) in
        k v vs q (e₁ ∙ ap (got v) y) (ap (many (c - 1) value_type (first_words b n)) (sym y) ∙ e₂) (list_value value_type b n at [] h e ∙ value_got [] e₃)

    pub first_within : at + 1 < n
    first_within = first λ v vs q e₁ e₂ e₃. value_within b n (at + 1) e₁

  pub one_dyn_lem : {w : ℕ} → c ≡ 1 → w ≡ get_or (words b) (at + 1) 0 → eqb w 12 ≡ one_dyn (value_of [] (list_of value_type (first_words b n) at))
  one_dyn_lem {w} z k = first (omega arith) λ v vs q e₁ e₂ e₃.
      let y : many 0 value_type (first_words b n) (at + 2) ≡ got vs q = let i : 0 ≡ c - 1 = omega arith in ap (λ j. many j value_type (first_words b n) (at + 2)) i ∙ e₂ in
      ap (λ i. eqb i 12) k ∙ value_dyn b n (at + 1) e₁ ∙ alone v vs q y ∙ ap one_dyn (sym e₃)
    where
      alone : (v : ValueType) (vs : List ValueType) (q : ℕ) → many 0 value_type (first_words b n) (at + 2) ≡ got vs q → is_dyn v ≡ one_dyn (v ∷ vs)
      alone v vs q y = unfold many one_dyn in let i : [] ≡ vs = cc in ap (λ l. one_dyn (v ∷ l)) i

  pub not_one : (c ≡ 1 → ⊥) → false ≡ one_dyn (value_of [] (list_of value_type (first_words b n) at))
  not_one z = whole_inv (list_of value_type (first_words b n) at) h λ vs q k.
      several vs (λ y. z (e ∙ values_count b n at k ∙ y)) ∙ ap one_dyn (sym (value_got [] k))
    where
      several : (vs : List ValueType) → (length vs ≡ 1 → ⊥) → false ≡ one_dyn vs
      several [] y = unfold one_dyn in refl
      several (v ∷ []) y = absurd (y refl)
      several (v ∷ w ∷ vs) y = unfold one_dyn in refl

-- ── all ──

-- count - i are ahead, from q on, and all before are dyn
pub record Dyns (ws : List ℕ) (at count i q : ℕ) : Type 0 where
  pub whole : Whole (many (count - i) value_type ws q)
  pub same : all_of is_dyn (value_of [] (list_of value_type ws at)) ≡ all_of is_dyn (value_of [] (many (count - i) value_type ws q))

module _ (b : List ℕ) (n at : ℕ) where
  pub dyns_start : {c : ℕ} → Whole (list_of value_type (first_words b n) at) → c ≡ get_or (words b) at 0 →
      Dyns (first_words b n) at c 0 (at + 1)
  dyns_start {c} h e =
      let z : c - 0 ≡ c = omega arith in
      record { whole = rw z (list_whole value_type b n at h e); same = rw z (ap (all_of is_dyn) (list_value value_type b n at [] h e)) }

  module _ (count i q : ℕ) (x : Dyns (first_words b n) at count i q) where
    pub dyns_end : count ≤ i → true ≡ all_of is_dyn (value_of [] (list_of value_type (first_words b n) at))
    unfolding many value_of
    dyns_end h =
        let z : count - i ≡ 0 = omega arith in
        sym (x.same ∙ ap (λ k. all_of is_dyn (value_of [] (many k value_type (first_words b n) q))) z)

    module _ (h : i < count) where
      ahead : {C : Type 0} → ((v : ValueType) (q₂ : ℕ) (vs : List ValueType) (e : ℕ) → value_type (first_words b n) q ≡ got v q₂
          → many (count - (i + 1)) value_type (first_words b n) q₂ ≡ got vs e →
          many (count - i) value_type (first_words b n) q ≡ got (v ∷ vs) e → C) → C
      ahead k = many_first value_type (first_words b n) (count - i) q x.whole (omega arith) λ v q₂ vs e e₁ e₂ e₃.
          let z : count - (i + 1) ≡ count - i - 1 = omega arith in
          k v q₂ vs e e₁ (ap (λ j. many j value_type (first_words b n) q₂) z ∙ e₂) e₃

      pub dyns_within : q < n
      dyns_within = ahead λ v q₂ vs e e₁ e₂ e₃. value_within b n q e₁

      module _ {w : ℕ} (k : w ≡ get_or (words b) q 0) where
        pub dyns_next : w ≡ 12 → Dyns (first_words b n) at count (i + 1) (q + 1)
        dyns_next z = ahead λ v q₂ vs e e₁ e₂ e₃.
            let y : q₂ ≡ q + 1 = value_end b n q e₁ in
            let d : is_dyn v ≡ true = sym (value_dyn b n q e₁) ∙ ap (λ i. eqb i 12) (sym k) ∙ eq-eqb w 12 z in
            let m : many (count - (i + 1)) value_type (first_words b n) (q + 1)
            ≡ got vs e = ap (many (count - (i + 1)) value_type (first_words b n)) (sym y) ∙ e₂ in
            record {
              whole = got_whole m;
              same = x.same ∙ ap (all_of is_dyn) (value_got [] e₃) ∙ ap (λ i. i && all_of is_dyn vs) d
                  ∙ ap (all_of is_dyn) (sym (value_got [] m));
            }

        pub dyns_stop : (w ≡ 12 → ⊥) → false ≡ all_of is_dyn (value_of [] (list_of value_type (first_words b n) at))
        dyns_stop z = ahead λ v q₂ vs e e₁ e₂ e₃.
            let d : is_dyn v ≡ false = sym (value_dyn b n q e₁) ∙ ap (λ i. eqb i 12) (sym k) ∙ not_dyn (eqb w 12) refl in
            sym (x.same ∙ ap (all_of is_dyn) (value_got [] e₃) ∙ ap (λ i. i && all_of is_dyn vs) d)
          where
            not_dyn : (i : Bool) → eqb w 12 ≡ i → eqb w 12 ≡ false
            not_dyn true e = absurd (z (eqb-true w 12 e))
            not_dyn false e = e
