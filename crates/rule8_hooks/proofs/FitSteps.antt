-- Whether a signature fits a hook's shape, step by step.
use Prim.Native.Nat.{ℕ}
use mathlib.Core.Path.{◌≡◌, refl, sym, ap, ◌∙◌}
use mathlib.Core.List.{List, [], ◌∷◌}
use mathlib.Core.Bool.{Bool, true, false, ◌&&◌}
use native.Mathlib.Omega.{arith}
use lib.Dec.{eqb}
use lib.ListN.{length}
use borrow.Author.Tests.{eq-eqb, ne_eqb}
use Rattle.lists.specs.Lists.{all_of}
use Rattle.reader.specs.Reader.{list_of}
use Rattle.reader.specs.Value.{value_of}
use Rattle.sheet.specs.Module.{ValueType, is_dyn, Module}
use Rattle.sheet.specs.Decode.{value_type}
use Rattle.imports.specs.Params.{sig_params, sig_results}
use Rattle.imports.specs.Imports.{one_dyn}
use Rattle.hooks.specs.Hooks.{hook_shape, result_fits, hook_fits}
use Rattle.rule8_shapes.specs.declared.Shape.{Shape}
use Rattle.rule8_shapes.specs.Shapes.{shape}
use Rattle.rule_signatures.specs.Signature.{HasSig}
use Rattle.rule_signatures.specs.SignatureLaws.{params_sig, results_sig}
use Rattle.rule8_hooks.specs.Bindings.{params_fit}

-- ── parameters ──

module _ (m : Module) (t n : ℕ) {c : ℕ} (e : c ≡ length (sig_params m t)) where
  counts_fit : c ≡ n → all_of is_dyn (sig_params m t) ≡ params_fit n (sig_params m t)
  unfolding params_fit
  counts_fit z = sym (ap (λ i. i && all_of is_dyn (sig_params m t)) (eq-eqb (length (sig_params m t)) n (sym e ∙ z)))

  pub params_none : c ≡ n → c ≡ 0 → true ≡ params_fit n (sig_params m t)
  params_none z y = sym (none (sig_params m t) (sym e ∙ y)) ∙ counts_fit z
    where
      none : (vs : List ValueType) → length vs ≡ 0 → all_of is_dyn vs ≡ true
      none [] y = refl
      none (v ∷ vs) y = absurd (omega arith)

  pub params_found : (c ≡ 0 → ⊥) → HasSig m t
  params_found z = params_sig m t (omega arith)

  pub params_all : (ws : List ℕ) (p : ℕ) {r : Bool} → c ≡ n → value_of [] (list_of value_type ws p) ≡ sig_params m t
      → r ≡ all_of is_dyn (value_of [] (list_of value_type ws p)) → r ≡ params_fit n (sig_params m t)
  params_all ws p z y k = k ∙ ap (all_of is_dyn) y ∙ counts_fit z

  pub params_other : (c ≡ n → ⊥) → false ≡ params_fit n (sig_params m t)
  unfolding params_fit
  params_other z = sym (ap (λ i. i && all_of is_dyn (sig_params m t)) (ap (λ l. eqb l n) (sym e) ∙ ne_eqb c n z))

-- ── the result ──

pub result_found : (m : Module) (t : ℕ) {c : ℕ} → c ≡ length (sig_results m t) → c ≡ 1 → HasSig m t
result_found m t e z = results_sig m t (omega arith)

module _ (m : Module) (t : ℕ) {x : Bool} {c : ℕ} (e : c ≡ length (sig_results m t)) where
  pub result_one : (ws : List ℕ) (p : ℕ) {r : Bool} → x ≡ true → value_of [] (list_of value_type ws p) ≡ sig_results m t
      → r ≡ one_dyn (value_of [] (list_of value_type ws p)) → r ≡ result_fits x (sig_results m t)
  unfolding result_fits
  result_one ws p z y k = k ∙ ap one_dyn y ∙ sym (ap (λ i. result_fits i (sig_results m t)) z)

  pub result_other : x ≡ true → (c ≡ 1 → ⊥) → false ≡ result_fits x (sig_results m t)
  unfolding result_fits
  result_other z y = several (sig_results m t) (λ k. y (e ∙ k)) ∙ sym (ap (λ i. result_fits i (sig_results m t)) z)
    where
      several : (vs : List ValueType) → (length vs ≡ 1 → ⊥) → false ≡ one_dyn vs
      several [] y = unfold one_dyn in refl
      several (v ∷ []) y = absurd (y refl)
      several (v ∷ w ∷ vs) y = unfold one_dyn in refl

  pub result_none : x ≡ false → eqb c 0 ≡ result_fits x (sig_results m t)
  unfolding result_fits
  result_none z = ap (λ i. eqb i 0) e ∙ sym (ap (λ i. result_fits i (sig_results m t)) z)

-- ── both ──

module _ (m : Module) (t h : ℕ) (s : Shape) {u : Bool} (e : shape s ≡ hook_shape h) (k : u ≡ params_fit s.params (sig_params m t)) where
  opened : (v : Bool) → u ≡ v → (v && result_fits s.result (sig_results m t)) ≡ hook_fits (hook_shape h) (sig_params m t) (sig_results m t)
  unfolding hook_fits shape params_fit
  opened v z = ap (λ i. i && result_fits s.result (sig_results m t)) (sym z ∙ k) ∙ ap (λ i. hook_fits i (sig_params m t) (sig_results m t)) e

  pub hook_result : {r : Bool} → u ≡ true → r ≡ result_fits s.result (sig_results m t) → r ≡ hook_fits (hook_shape h) (sig_params m t) (sig_results m t)
  hook_result z y = y ∙ opened true z

  pub hook_params : u ≡ false → false ≡ hook_fits (hook_shape h) (sig_params m t) (sig_results m t)
  hook_params z = opened false z
