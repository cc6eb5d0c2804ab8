-- Bindings of hooks judged word by word.
use Prim.Native.Nat.{ℕ, ◌+◌, ◌<◌}
use mathlib.Core.Path.{◌≡◌, refl, sym, ap, ap₂, ◌∙◌}
use mathlib.Core.List.{List, []}
use mathlib.Core.Bool.{Bool, true, false, cond}
use native.Mathlib.Omega.{arith}
use lib.Dec.{eqb}
use lib.ListN.{get_or}
use borrow.Author.Tests.{eq-eqb, ne_eqb}
use Rattle.lists.specs.Lists.{concat_map}
use Rattle.blocks.specs.Blocks.{words}
use Rattle.blocks.specs.Frame.{first_words}
use Rattle.error.specs.Verdict.{Verdict}
use Rattle.error.specs.Verdict.{Judged}
use Rattle.error.specs.Answer.{in_module}
use Rattle.error.specs.Verdict.{verdict_of, judged_of, placed}
use Rattle.error.specs.VerdictLaws.{placed_faults_lem}
use Rattle.reader.specs.Reader.{list_of}
use Rattle.reader.specs.Value.{Whole, value_of}
use Rattle.reader.specs.ValueLaws.{whole_inv, got_whole, value_got}
use Rattle.reader.proofs.SizeLaws.{Takes, coded_takes}
use Rattle.sheet.specs.Module.{Module}
use Rattle.sheet.specs.Decode.{hook_of}
use Rattle.sheet.specs.Encode.{encode_hook}
use Rattle.sheet.specs.Coded.{coded_hook}
use Rattle.sheet.proofs.ModuleCodes.{hook_codes}
use Rattle.hooks.specs.Hooks.{hook_function_faults, hook_import_faults, hook_faults, hooks_faults}
use Rattle.hooks.specs.HookLaws.{hook_in, hook_number, hook_kind, hook_index, hook_known}
use Rattle.open_layout.specs.Opened.{module_in}
use Rattle.open_sheet.specs.declared.Opened.{Opened}
use Rattle.open_sheet.specs.Ready.{Ready}
use Rattle.law_judging.specs.Judging.{list_faults}
use Rattle.rule8_hooks.specs.Bindings.{no_hook}

-- ── one binding ──

module _ (b : List ℕ) (n at : ℕ) (h : Whole (hook_of (first_words b n) at)) where
  pub hook_within : at + 2 < n
  hook_within = whole_inv (hook_of (first_words b n) at) h λ a q e. hook_in b n at e

  pub hook_listed : {k : ℕ} → k ≡ get_or (words b) at 0 → k < 31
  hook_listed l = whole_inv (hook_of (first_words b n) at) h λ a q e. omega (arith, hook_known b n at e, hook_number b n at e, l)

  module _ (m : Module) {k c i : ℕ} {r : Verdict} (u : k ≡ get_or (words b) at 0) (v : c ≡ get_or (words b) (at + 1) 0) (w : i ≡ get_or (words b) (at + 2) 0) where
    told : (x : Bool) → eqb c 0 ≡ x → r ≡ verdict_of (cond x (hook_function_faults m k i) (hook_import_faults m k i))
        → r ≡ verdict_of (hook_faults m (value_of no_hook (hook_of (first_words b n) at)))
    unfolding hook_faults
    told x z f = whole_inv (hook_of (first_words b n) at) h λ a q g.
        f ∙ ap (λ y. verdict_of (cond y (hook_function_faults m k i) (hook_import_faults m k i))) (sym z ∙ ap (λ j. eqb j 0) (v ∙ hook_kind b n at g))
        ∙ ap₂ (λ k i. verdict_of (cond (eqb a.kind 0) (hook_function_faults m k i) (hook_import_faults m k i))) (u ∙ hook_number b n at g) (w ∙ hook_index b n at g)
        ∙ ap (λ y. verdict_of (hook_faults m y)) (sym (value_got no_hook g))

    pub hook_function : c ≡ 0 → r ≡ verdict_of (hook_function_faults m k i) → r ≡ verdict_of (hook_faults m (value_of no_hook (hook_of (first_words b n) at)))
    hook_function z f = told true (eq-eqb c 0 z) f

    pub hook_import : (c ≡ 0 → ⊥) → r ≡ verdict_of (hook_import_faults m k i) → r ≡ verdict_of (hook_faults m (value_of no_hook (hook_of (first_words b n) at)))
    hook_import z f = told false (ne_eqb c 0 z) f

-- ── all bindings ──

pub hooks_whole : (ws w : List ℕ) (o : Opened) → Ready ws w o → Whole (list_of hook_of ws o.layout.hooks)
hooks_whole ws w o x = got_whole x.opens.located.hooks

pub hook_takes : Takes hook_of 3
unfolding encode_hook
hook_takes = coded_takes hook_of encode_hook coded_hook 3 hook_codes (λ a. refl) (omega arith)

pub hooks_judged : (ws w : List ℕ) (o : Opened) {v : Verdict} {r : Judged} → Ready ws w o → v ≡ verdict_of (list_faults (hook_faults (module_in ws)) (list_of hook_of ws o.layout.hooks))
    → r ≡ placed in_module v → r ≡ judged_of (hooks_faults (module_in ws))
unfolding list_faults hooks_faults
hooks_judged ws w o x e k =
    placed_faults_lem in_module (concat_map (hook_faults (module_in ws)) (module_in ws).hooks)
    (e ∙ ap (λ l. verdict_of (concat_map (hook_faults (module_in ws)) l)) (value_got [] x.opens.located.hooks)) k
