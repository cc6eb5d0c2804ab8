-- The result's word.
use Prim.Native.Nat.{ℕ, ◌+◌, ◌*◌, ◌≤◌, ◌<◌}
use mathlib.Core.Path.{◌≡◌, refl, sym, ap, subst, ◌∙◌}
use mathlib.Core.List.{List, [], ◌∷◌}
use mathlib.Core.Bool.{true}
use native.Mathlib.Omega.{arith}
use lib.ListN.{length, get_or}
use borrow.Author.Tests.{ltb-true}
use Rattle.lists.specs.Lists.{concat_map}
use Rattle.blocks.specs.Frame.{first_words}
use Rattle.error.specs.declared.What.TheVariants.{Types}
use Rattle.law_faults.specs.Empty.{range_empty}
use Rattle.reader.specs.Reader.{list_of}
use Rattle.reader.specs.Value.{Whole, value_of}
use Rattle.reader.specs.ValueLaws.{whole_inv, value_got, list_within}
use Rattle.sheet.specs.Module.{ValueType, basic, ref, dyn, value_word, Module}
use Rattle.sheet.specs.Decode.{basic_types, value_type}
use Rattle.sheet.specs.Coded.{coded_value}
use Rattle.sheet.proofs.TypeCodes.{value_codes}
use Rattle.canon.specs.Canon.{canon_value, canon_word}
use Rattle.canon.proofs.CanonLaws.{canon_most}
use Rattle.types.specs.Types.{value_faults}
use Rattle.open_layout.specs.Opened.{module_in}
use Rattle.imports.specs.Params.{sig_results}
use Rattle.table.specs.Records.{result_word}
use Rattle.rule_signatures.specs.Signature.{HasSig}
use Rattle.rule_frames.specs.declared.Frame.{Frame}
use Rattle.rule_frames.specs.Frames.{func_of}
use Rattle.table_values.specs.Values.{Values}
use Rattle.table_values.specs.ValuesLaws.{values_list, values_at_lem, list_values}
use Rattle.table_funcs.specs.FuncWords.{Sound}
use Rattle.table_funcs.proofs.Rules.{clean, results_hold}

-- ── canonical words are small ──

word_small : (m : Module) (v : ValueType) → coded_value v ≡ true → value_faults m v ≡ [] → canon_word m.types v ≤ 16 + length m.types
unfolding canon_word canon_value value_word coded_value value_faults
word_small m (basic k) o e = omega (arith, ltb-true k basic_types o)
word_small m (ref t) o e =
    let h : t < length m.types = (range_empty Types (length m.types) t).0 e in
    omega (arith, canon_most m.types t h)

-- ── code ──

module _ (ws : List ℕ) (c : Frame) (x : Sound ws c) where
  pub sig_has : HasSig (module_in ws) c.body.sig.0
  sig_has = subst (HasSig (module_in ws)) (sym x.framed.placed.sig) (clean (module_in ws) (func_of ws c) x.func).sig

  same_results : sig_results (module_in ws) c.body.sig.0 ≡ sig_results (module_in ws) (func_of ws c).sig
  same_results = ap (sig_results (module_in ws)) x.framed.placed.sig

  none_word : (vs : List ValueType) → length vs ≡ 0 → 0 ≡ result_word (module_in ws) vs
  unfolding result_word
  none_word [] e = refl
  none_word (v ∷ vs) e = absurd (omega arith)

  some_word : (vs : List ValueType) → 0 < length vs → canon_word (module_in ws).types (get_or vs 0 dyn) + 1 ≡ result_word (module_in ws) vs
  unfolding result_word
  some_word [] h = absurd (omega arith)
  some_word (v ∷ vs) h = refl

  module _ {n : ℕ} (k : n ≡ length (sig_results (module_in ws) c.body.sig.0)) where
    pub result_none : n ≡ 0 → 0 ≡ result_word (module_in ws) (sig_results (module_in ws) (func_of ws c).sig)
    result_none e = none_word (sig_results (module_in ws) (func_of ws c).sig) (sym (ap length same_results) ∙ sym k ∙ e)

    module _ (e : n ≡ 0 → ⊥) (p : ℕ) (h : Whole (list_of value_type ws p)) (g : value_of [] (list_of value_type ws p) ≡ sig_results (module_in ws) c.body.sig.0) where
      counted : n ≡ length (value_of [] (list_of value_type ws p))
      counted = k ∙ sym (ap length g)

      first : p + 1 + 1 * 0 ≡ p + 1
      first = omega arith

      good : Values ws (p + 1) 1 n
      good =
          list_values ws p n h counted
          (ap (concat_map (value_faults (module_in ws))) g ∙ results_hold (module_in ws) c.body.sig.0 x.types sig_has)

      pub result_whole : Whole (value_type ws (p + 1))
      result_whole = subst (λ q. Whole (value_type ws q)) first (good.whole 0 (omega arith))

      pub result_holds : value_faults (module_in ws) (value_of dyn (value_type ws (p + 1))) ≡ []
      result_holds = subst (λ q. value_faults (module_in ws) (value_of dyn (value_type ws q)) ≡ []) first (good.holds 0 (omega arith))

      is_first : value_of dyn (value_type ws (p + 1)) ≡ get_or (sig_results (module_in ws) (func_of ws c).sig) 0 dyn
      is_first =
          ap (λ q. value_of dyn (value_type ws q)) (sym first)
          ∙ sym (values_at_lem ws (p + 1) 1 n 0 (omega arith))
          ∙ ap (λ (l : List ValueType). get_or l 0 dyn) (values_list ws p n h counted ∙ g ∙ same_results)

      module _ {r : ℕ} (y : r ≡ canon_word (module_in ws).types (value_of dyn (value_type ws (p + 1)))) where
        pub result_small : r ≤ 520208
        result_small = whole_inv (value_type ws (p + 1)) result_whole λ v q z.
            let a : value_of dyn (value_type ws (p + 1)) ≡ v = value_got dyn z in
            omega (
              arith,
              x.few,
              y ∙ ap (canon_word (module_in ws).types) a,
              word_small (module_in ws) v ((value_codes ws).found (p + 1) v q z).fine (ap (value_faults (module_in ws)) (sym a) ∙ result_holds),
            )

        pub result_some : r + 1 ≡ result_word (module_in ws) (sig_results (module_in ws) (func_of ws c).sig)
        result_some =
            ap (λ i. i + 1) (y ∙ ap (canon_word (module_in ws).types) is_first)
            ∙ some_word (sig_results (module_in ws) (func_of ws c).sig) (omega (arith, k, ap length same_results))

-- where the results stand is inside the sheet
pub results_in : (b : List ℕ) (n p : ℕ) → Whole (list_of value_type (first_words b n) p) → p < n
results_in b n p h = list_within value_type b n p h
