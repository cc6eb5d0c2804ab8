-- Each reader of a sheet with its encoder: types and constants.
use Prim.Native.Nat.{ℕ, zero, suc, ◌+◌, ◌-◌}
use Rattle.std.specs.Prelude.{◌≡◌, Bool, ◌&&◌, eqb, ltb, get_or}
use Rattle.std.proofs.Math.Path.{refl}
use mathlib.Core.List.{List, [], ◌∷◌, ◌++◌}
use Rattle.std.proofs.Math.Bool.{true, false, cond}
use native.Mathlib.Omega.{arith}
use borrow.Author.Tests.{le-ltb, ltb-false, eqb-true}
use Rattle.lists.specs.Lists.{all_of}
use Rattle.lists.specs.ListLaws.{both, and_first, and_second}
use Rattle.reader.specs.Reader.{got, pure, fail, list_of, encode_list}
use Rattle.reader.proofs.ReadLaws.{encode_injective}
use Rattle.reader.specs.ReaderLaws.{Stands, stands_none, join, Found, Codes, free, seq, next, landed, last, final, not_broken, word_codes, list_codes, free_codes, words_codes}
use Rattle.sheet.specs.Module.{ValueType, basic, ref, first_ref, value_word, TypeDef, func, struct, cell, iter, coroutine, kind_word, Const, plain}
use Rattle.sheet.specs.Decode.{basic_types, value_type, field_of, method_of, func_type, struct_type, of_one, of_two, type_bodies, type_def, plain_const, string_const, array_const, pair_of, map_const, const_bodies, const_of}
use Rattle.sheet.specs.Encode.{encode_value, encode_field, encode_method, encode_struct, encode_body, encode_type, encode_pair, encode_const}
use Rattle.sheet.specs.Coded.{coded_value, coded_field, coded_type}

module _ (ws : List ℕ) where
  -- ── types ──

  value_found : (w p : ℕ) (b c : Bool) → ltb w basic_types ≡ b → ltb w first_ref ≡ c → (p₀ : ℕ) → Stands ws p₀ (w ∷ []) p → (a : ValueType) (q : ℕ)
      → cond b (pure (basic w)) (cond c fail (pure (ref (w - first_ref)))) ws p ≡ got a q → Found ws encode_value coded_value p₀ a q
  unfolding encode_value value_word coded_value
  value_found w p true c h k p₀ s a q e = landed e s h
  value_found w p false true h k p₀ s a q e = absurd (not_broken e)
  value_found w p false false h k p₀ s a q e =
      let z : w ≡ first_ref + (w - first_ref) = omega (arith, ltb-false w first_ref k) in
      landed e (rw (← z) s) refl

  pub value_codes : Codes ws value_type encode_value coded_value
  unfolding value_type encode_value value_word coded_value
  value_codes =
      record {
        found = λ p a q e. seq ws (word_codes ws) p _ e λ w p₁ s o e. value_found w p₁ (ltb w basic_types) (ltb w first_ref) refl refl p s a q e;
        reads = λ p a q w. next ws (word_codes ws) (value_word a) [] _ refl w.stands λ p₁ s. go a p₁ q w.fine s;
      }
    where
      go : (a : ValueType) (p q : ℕ) → coded_value a ≡ true → Stands ws p [] q
          → cond (ltb (value_word a) basic_types) (pure (basic (value_word a))) (cond (ltb (value_word a) first_ref) fail (pure (ref (value_word a - first_ref)))) ws p ≡ got a q
      go (basic k) p q o s = rw o (last s)
      go (ref t) p q o s =
          let z : first_ref + t - first_ref ≡ t = omega arith in
          rw (le-ltb (first_ref + t) basic_types (omega arith), le-ltb (first_ref + t) first_ref (omega arith), z) (last s)

  pub field_codes : Codes ws field_of encode_field coded_field
  unfolding field_of encode_field coded_field
  field_codes =
      record {
        found = λ p a q e. seq ws (word_codes ws) p _ e λ n p₁ s₁ o₁ e. seq ws value_codes p₁ _ e λ t p₂ s₂ o₂ e. landed e (join ws s₁ s₂) o₂;
        reads = λ p a q w. next ws (word_codes ws) a.name _ _ refl w.stands λ p₁ s. final ws value_codes a.type _ w.fine s;
      }

  pub method_codes : Codes ws method_of encode_method free
  unfolding method_of encode_method
  method_codes =
      record {
        found = λ p a q e. seq ws (word_codes ws) p _ e λ n p₁ s₁ o₁ e. seq ws (word_codes ws) p₁ _ e λ f p₂ s₂ o₂ e. landed e (join ws s₁ s₂) refl;
        reads = λ p a q w. next ws (word_codes ws) a.name _ _ refl w.stands λ p₁ s. final ws (word_codes ws) a.func _ refl s;
      }

  pub values_codes : Codes ws (list_of value_type) (encode_list encode_value) (all_of coded_value)
  values_codes = list_codes ws value_type encode_value coded_value value_codes

  pub fields_codes : Codes ws (list_of field_of) (encode_list encode_field) (all_of coded_field)
  fields_codes = list_codes ws field_of encode_field coded_field field_codes

  pub methods_codes : Codes ws (list_of method_of) (encode_list encode_method) free
  methods_codes = free_codes ws method_of encode_method method_codes

  -- a type of kind k that can be encoded
  abbrev of_kind : ℕ → TypeDef → Bool
  of_kind k d = eqb (kind_word d) k && coded_type d

  -- what follows the kind word is the body of a type of that kind
  body_found : (k p : ℕ) (a : TypeDef) (q : ℕ) → get_or type_bodies k fail ws p ≡ got a q → Found ws encode_body (of_kind k) p a q
  unfolding func_type struct_type of_one of_two encode_body encode_struct coded_type kind_word
  body_found zero p a q e = seq ws values_codes p _ e λ ps p₁ s₁ o₁ e. seq ws values_codes p₁ _ e λ rs p₂ s₂ o₂ e. landed e (join ws s₁ s₂) (both o₁ o₂)
  body_found (suc zero) p a q e =
      seq ws (word_codes ws) p _ e λ n p₁ s₁ o₁ e.
      seq ws (word_codes ws) p₁ _ e λ u p₂ s₂ o₂ e.
      seq ws fields_codes p₂ _ e λ fs p₃ s₃ o₃ e.
      seq ws methods_codes p₃ _ e λ ms p₄ s₄ o₄ e.
      landed e (join ws s₁ (join ws s₂ (join ws s₃ s₄))) o₃
  body_found (suc (suc zero)) p a q e = seq ws value_codes p _ e λ v p₁ s o e. landed e s o
  body_found (suc (suc (suc zero))) p a q e = seq ws value_codes p _ e λ k p₁ s₁ o₁ e. seq ws value_codes p₁ _ e λ v p₂ s₂ o₂ e. landed e (join ws s₁ s₂) (both o₁ o₂)
  body_found (suc (suc (suc (suc zero)))) p a q e = seq ws value_codes p _ e λ v p₁ s o e. landed e s o
  body_found (suc (suc (suc (suc (suc zero))))) p a q e = seq ws value_codes p _ e λ k p₁ s₁ o₁ e. seq ws value_codes p₁ _ e λ v p₂ s₂ o₂ e. landed e (join ws s₁ s₂) (both o₁ o₂)
  body_found (suc (suc (suc (suc (suc (suc zero)))))) p a q e = landed e (stands_none ws p) refl
  body_found (suc (suc (suc (suc (suc (suc (suc k))))))) p a q e = absurd (not_broken e)

  body_reads : (a : TypeDef) (p q : ℕ) → coded_type a ≡ true → Stands ws p (encode_body a) q → get_or type_bodies (kind_word a) fail ws p ≡ got a q
  unfolding func_type struct_type of_one of_two encode_body encode_struct coded_type kind_word
  body_reads (func d) p q o s =
      next ws values_codes d.params _ _ (and_first (all_of coded_value d.params) (all_of coded_value d.results) o) s λ p₁ s.
      final ws values_codes d.results _ (and_second (all_of coded_value d.params) (all_of coded_value d.results) o) s
  body_reads (struct d) p q o s =
      next ws (word_codes ws) d.name _ _ refl s λ p₁ s.
      next ws (word_codes ws) d.parent+ _ _ refl s λ p₂ s.
      next ws fields_codes d.fields _ _ o s λ p₃ s.
      final ws methods_codes d.methods _ refl s
  body_reads (TypeDef.array v) p q o s = final ws value_codes v _ o s
  body_reads (TypeDef.map k v) p q o s =
      next ws value_codes k _ _ (and_first (coded_value k) (coded_value v) o) s λ p₁ s. final ws value_codes v _ (and_second (coded_value k) (coded_value v) o) s
  body_reads (cell v) p q o s = final ws value_codes v _ o s
  body_reads (iter k v) p q o s =
      next ws value_codes k _ _ (and_first (coded_value k) (coded_value v) o) s λ p₁ s. final ws value_codes v _ (and_second (coded_value k) (coded_value v) o) s
  body_reads coroutine p q o s = last s

  pub type_codes : Codes ws type_def encode_type coded_type
  unfolding type_def encode_type
  type_codes =
      record {
        found = λ p a q e.
            seq ws (word_codes ws) p _ e λ k p₁ s o e.
            let w = body_found k p₁ a q e in
            let h : kind_word a ≡ k = eqb-true (kind_word a) k (and_first (eqb (kind_word a) k) (coded_type a) w.fine) in
            record { stands = rw h (join ws s w.stands); fine = and_second (eqb (kind_word a) k) (coded_type a) w.fine };
        reads = λ p a q w. next ws (word_codes ws) (kind_word a) (encode_body a) _ refl w.stands λ p₁ s. body_reads a p₁ q w.fine s;
      }

  -- ── constants ──

  pub pair_codes : Codes ws pair_of encode_pair free
  unfolding pair_of encode_pair
  pair_codes =
      record {
        found = λ p a q e. seq ws (word_codes ws) p _ e λ k p₁ s₁ o₁ e. seq ws (word_codes ws) p₁ _ e λ v p₂ s₂ o₂ e. landed e (join ws s₁ s₂) refl;
        reads = λ p a q w. next ws (word_codes ws) a.0 _ _ refl w.stands λ p₁ s. final ws (word_codes ws) a.1 _ refl s;
      }

  pub pairs_codes : Codes ws (list_of pair_of) (encode_list encode_pair) free
  pairs_codes = free_codes ws pair_of encode_pair pair_codes

  const_found : (k p p₁ : ℕ) (a : Const) (q : ℕ) → Stands ws p (k ∷ []) p₁ → get_or const_bodies k fail ws p₁ ≡ got a q → Found ws encode_const free p a q
  unfolding plain_const string_const array_const map_const encode_const
  const_found zero p p₁ a q s e =
      seq ws (word_codes ws) p₁ _ e λ l p₂ s₁ o₁ e. seq ws (word_codes ws) p₂ _ e λ h p₃ s₂ o₂ e. landed e (join ws s (join ws s₁ s₂)) refl
  const_found (suc zero) p p₁ a q s e = seq ws (word_codes ws) p₁ _ e λ n p₂ s₁ o e. landed e (join ws s s₁) refl
  const_found (suc (suc zero)) p p₁ a q s e = seq ws (words_codes ws) p₁ _ e λ xs p₂ s₁ o e. landed e (join ws s s₁) refl
  const_found (suc (suc (suc zero))) p p₁ a q s e = seq ws pairs_codes p₁ _ e λ xs p₂ s₁ o e. landed e (join ws s s₁) refl
  const_found (suc (suc (suc (suc k)))) p p₁ a q s e = absurd (not_broken e)

  const_reads : (a : Const) (p q : ℕ) → Stands ws p (encode_const a) q → const_of ws p ≡ got a q
  unfolding const_of plain_const string_const array_const map_const encode_const
  const_reads (plain l h) p q s = next ws (word_codes ws) 0 _ _ refl s λ p₁ s. next ws (word_codes ws) l _ _ refl s λ p₂ s. final ws (word_codes ws) h _ refl s
  const_reads (Const.string n) p q s = next ws (word_codes ws) 1 _ _ refl s λ p₁ s. final ws (word_codes ws) n _ refl s
  const_reads (Const.array xs) p q s = next ws (word_codes ws) 2 _ _ refl s λ p₁ s. final ws (words_codes ws) xs _ refl s
  const_reads (Const.map xs) p q s = next ws (word_codes ws) 3 _ _ refl s λ p₁ s. final ws pairs_codes xs _ refl s

  pub const_codes : Codes ws const_of encode_const free
  unfolding const_of
  const_codes =
      record {
        found = λ p a q e. seq ws (word_codes ws) p _ e λ k p₁ s o e. const_found k p p₁ a q s e;
        reads = λ p a q w. const_reads a p q w.stands;
      }

-- no two types have the same words
pub type_injective : (d e : TypeDef) → coded_type d ≡ true → coded_type e ≡ true → encode_type d ≡ encode_type e → d ≡ e
type_injective d e h k w = encode_injective type_def encode_type coded_type d e (type_codes (encode_type d ++ [])) h k w
