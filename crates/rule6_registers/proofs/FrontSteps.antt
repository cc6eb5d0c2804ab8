-- Two lists of value types, compared member by member.
use Prim.Native.Nat.{ℕ, suc, ◌+◌, ◌≤◌, ◌<◌}
use mathlib.Core.Path.{◌≡◌, refl, sym, ap, ◌∙◌}
use mathlib.Core.List.{List, [], map}
use mathlib.Core.Bool.{true, false}
use native.Mathlib.Omega.{arith}
use native.Mathlib.Numerals.{add-one}
use lib.ListN.{length, get_or, take, drop, length-map, length-take}
use Rattle.lists.specs.Lists.{all_of, concat_map, is_front}
use Rattle.lists.specs.ListLaws.{length_concat_map, map_at}
use Rattle.lists.specs.FrontLaws.{front_long, front_next, front_differs, front_end}
use Rattle.blocks.specs.Blocks.{words}
use Rattle.blocks.specs.Frame.{first_words}
use Rattle.blocks.proofs.FirstWords.{first_words_at}
use Rattle.error.specs.declared.LoadErrorKind.{LoadErrorKind}
use Rattle.law_faults.specs.Empty.{every}
use Rattle.reader.specs.Reader.{got, list_of, encode_list}
use Rattle.reader.proofs.ReadLaws.{read_at, listed_at}
use Rattle.reader.specs.Value.{Whole, value_of}
use Rattle.reader.specs.ValueLaws.{whole_inv, got_whole, value_got, list_within}
use Rattle.sheet.specs.Module.{ValueType, dyn, Module}
use Rattle.sheet.specs.Decode.{value_type}
use Rattle.sheet.specs.Encode.{encode_value}
use Rattle.sheet.specs.Coded.{coded_value}
use Rattle.sheet.proofs.TypeCodes.{value_codes, values_codes}
use Rattle.canon.specs.Canon.{canon_word}
use Rattle.types.specs.Types.{value_faults}
use Rattle.funcs.specs.Funcs.{params_first}
use Rattle.law_judging.specs.Judging.{list_faults}
use Rattle.rule6_registers.specs.ValueWords.{value_within}

-- ── member i of a list, each a word ──

module _ (ws : List ℕ) (at : ℕ) (h : Whole (list_of value_type ws at)) (i : ℕ) (l : i < length (value_of [] (list_of value_type ws at))) where
  member_got : {C : Type 0} → ((q : ℕ) → value_type ws (at + 1 + i) ≡ got (get_or (value_of [] (list_of value_type ws at)) i dyn) q → C) → C
  unfolding encode_value
  member_got k = whole_inv (list_of value_type ws at) h λ vs q e.
      let d : i < length vs = omega (arith, ap length (value_got [] e)) in
      let z : at + 1 + i ≡ at + 1 + length (concat_map encode_value (take i vs)) =
      omega (arith, length_concat_map encode_value 1 (λ v. refl) (take i vs), length-take i vs) in
      k (at + 1 + length (concat_map encode_value (take (suc i) vs)))
      (ap (value_type ws) z ∙ listed_at ws value_type encode_value coded_value (value_codes ws) at vs q e i dyn d
      ∙ ap (λ xs. got (get_or xs i dyn) (at + 1 + length (concat_map encode_value (take (suc i) vs)))) (sym (value_got [] e)))

  member_whole : Whole (value_type ws (at + 1 + i))
  member_whole = member_got λ q e. got_whole e

  member_value : value_of dyn (value_type ws (at + 1 + i)) ≡ get_or (value_of [] (list_of value_type ws at)) i dyn
  member_value = member_got λ q e. value_got dyn e

  member_clear : (faults : ValueType → List LoadErrorKind) → list_faults faults (list_of value_type ws at) ≡ [] → faults (value_of dyn (value_type ws (at + 1 + i))) ≡ []
  unfolding list_faults
  member_clear faults e = ap faults member_value ∙ (every dyn faults (value_of [] (list_of value_type ws at))).0 e i l

-- how many there are
values_count : (b : List ℕ) (n at : ℕ) → Whole (list_of value_type (first_words b n) at) → {c : ℕ} → c ≡ get_or (words b) at 0 → c ≡ length (value_of [] (list_of value_type (first_words b n) at))
values_count b n at h {c} k = whole_inv (list_of value_type (first_words b n) at) h λ vs q e.
    let z : at ≡ at + 0 = omega arith in
    k ∙ sym (first_words_at b n at (list_within value_type b n at h)) ∙ ap (λ i. get_or (first_words b n) i 0) z
    ∙ read_at (first_words b n) (list_of value_type) (encode_list encode_value) (all_of coded_value) (values_codes (first_words b n)) at vs q e 0 (omega arith)
    ∙ ap length (sym (value_got [] e))

-- ── the comparison ──

-- the canonical words of a list of value types
abbrev pub canons : Module → List ℕ → ℕ → List ℕ
canons m ws at = map (canon_word m.types) (value_of [] (list_of value_type ws at))

-- c parameters, and no fewer registers; the first i are the same
pub record Fronts (m : Module) (ws : List ℕ) (params regs c i : ℕ) : Type 0 where
  pub count : c ≡ length (value_of [] (list_of value_type ws params))
  pub room : c ≤ length (value_of [] (list_of value_type ws regs))
  pub same : params_first m (value_of [] (list_of value_type ws params)) (value_of [] (list_of value_type ws regs)) ≡ is_front (drop i (canons m ws params)) (drop i (canons m ws regs))

module _ (m : Module) (b : List ℕ) (n params regs : ℕ) (h : Whole (list_of value_type (first_words b n) params)) (k : Whole (list_of value_type (first_words b n) regs)) where
  module _ {c d : ℕ} (e : c ≡ get_or (words b) params 0) (f : d ≡ get_or (words b) regs 0) where
    pub too_many : d < c → false ≡ params_first m (value_of [] (list_of value_type (first_words b n) params)) (value_of [] (list_of value_type (first_words b n) regs))
    unfolding params_first
    too_many l =
        let ps = value_of [] (list_of value_type (first_words b n) params) in
        let rs = value_of [] (list_of value_type (first_words b n) regs) in
        sym (front_long (canons m (first_words b n) params) (canons m (first_words b n) regs)
        (omega (arith, values_count b n params h e, values_count b n regs k f, length-map ps (canon_word m.types), length-map rs (canon_word m.types))))

    pub fronts_start : c ≤ d → Fronts m (first_words b n) params regs c 0
    unfolding params_first
    fronts_start l = record {
      count = values_count b n params h e;
      room = omega (arith, values_count b n regs k f);
      same = refl;
    }

  module _ (c i : ℕ) (x : Fronts m (first_words b n) params regs c i) where
    pub fronts_end : c ≤ i → true ≡ params_first m (value_of [] (list_of value_type (first_words b n) params)) (value_of [] (list_of value_type (first_words b n) regs))
    fronts_end l =
        sym (x.same ∙ front_end (canons m (first_words b n) params) (canons m (first_words b n) regs) i
        (omega (arith, x.count, length-map (value_of [] (list_of value_type (first_words b n) params)) (canon_word m.types))))

    module _ (l : i < c) where
      in_params : i < length (value_of [] (list_of value_type (first_words b n) params))
      in_params = omega (arith, x.count)

      in_regs : i < length (value_of [] (list_of value_type (first_words b n) regs))
      in_regs = omega (arith, x.room)

      pub param_whole : Whole (value_type (first_words b n) (params + 1 + i))
      param_whole = member_whole (first_words b n) params h i in_params

      pub reg_whole : Whole (value_type (first_words b n) (regs + 1 + i))
      reg_whole = member_whole (first_words b n) regs k i in_regs

      pub param_within : params + 1 + i < n
      param_within = member_got (first_words b n) params h i in_params λ q e. value_within b n (params + 1 + i) e

      pub reg_within : regs + 1 + i < n
      reg_within = member_got (first_words b n) regs k i in_regs λ q e. value_within b n (regs + 1 + i) e

      pub param_clear : list_faults (value_faults m) (list_of value_type (first_words b n) params) ≡ [] → value_faults m (value_of dyn (value_type (first_words b n) (params + 1 + i))) ≡ []
      param_clear = member_clear (first_words b n) params h i in_params (value_faults m)

      pub reg_clear : list_faults (value_faults m) (list_of value_type (first_words b n) regs) ≡ [] → value_faults m (value_of dyn (value_type (first_words b n) (regs + 1 + i))) ≡ []
      reg_clear = member_clear (first_words b n) regs k i in_regs (value_faults m)

      module _ {p r : ℕ} (e : p ≡ canon_word m.types (value_of dyn (value_type (first_words b n) (params + 1 + i))))
          (f : r ≡ canon_word m.types (value_of dyn (value_type (first_words b n) (regs + 1 + i)))) where
        param_at : p ≡ get_or (canons m (first_words b n) params) i 0
        param_at =
            e ∙ ap (canon_word m.types) (member_value (first_words b n) params h i in_params)
            ∙ sym (map_at (canon_word m.types) dyn 0 (value_of [] (list_of value_type (first_words b n) params)) i in_params)

        reg_at : r ≡ get_or (canons m (first_words b n) regs) i 0
        reg_at =
            f ∙ ap (canon_word m.types) (member_value (first_words b n) regs k i in_regs)
            ∙ sym (map_at (canon_word m.types) dyn 0 (value_of [] (list_of value_type (first_words b n) regs)) i in_regs)

        param_in : i < length (canons m (first_words b n) params)
        param_in = omega (arith, in_params, length-map (value_of [] (list_of value_type (first_words b n) params)) (canon_word m.types))

        reg_in : i < length (canons m (first_words b n) regs)
        reg_in = omega (arith, in_regs, length-map (value_of [] (list_of value_type (first_words b n) regs)) (canon_word m.types))

        pub fronts_next : p ≡ r → Fronts m (first_words b n) params regs c (i + 1)
        fronts_next z = record {
          count = x.count;
          room = x.room;
          same = x.same
              ∙ front_next (canons m (first_words b n) params) (canons m (first_words b n) regs) i param_in reg_in (sym param_at ∙ z ∙ reg_at)
              ∙ ap (λ j. is_front (drop j (canons m (first_words b n) params)) (drop j (canons m (first_words b n) regs))) (sym (add-one i));
        }

        pub fronts_stop : (p ≡ r → ⊥) → false ≡ params_first m (value_of [] (list_of value_type (first_words b n) params)) (value_of [] (list_of value_type (first_words b n) regs))
        fronts_stop z =
            sym (x.same ∙ front_differs (canons m (first_words b n) params) (canons m (first_words b n) regs) i param_in reg_in (λ y. z (param_at ∙ y ∙ sym reg_at)))
