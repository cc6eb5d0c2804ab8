-- Globals judged word by word.
use Prim.Native.Nat.{ℕ, suc, ◌+◌, ◌-◌, ◌<◌}
use mathlib.Core.Path.{◌≡◌, refl, sym, ap, ◌∙◌}
use mathlib.Core.List.{List, []}
use native.Mathlib.Omega.{arith}
use lib.ListN.{get_or}
use Rattle.lists.specs.Lists.{concat_map}
use Rattle.blocks.specs.Blocks.{words}
use Rattle.blocks.specs.Frame.{first_words}
use Rattle.error.specs.declared.What.TheVariants.{Constants}
use Rattle.error.specs.declared.LoadErrorKind.{LoadErrorKind}
use Rattle.error.specs.Verdict.{Verdict}
use Rattle.std.specs.Prelude.{Err, Ok}
use Rattle.error.specs.Verdict.{Judged}
use Rattle.error.specs.Answer.{in_module, in_range}
use Rattle.error.specs.Verdict.{verdict_of, judged_of, placed}
use Rattle.error.specs.VerdictLaws.{verdict_then, verdict_stop, placed_faults_lem}
use Rattle.reader.specs.Reader.{got, word, list_of}
use Rattle.reader.specs.ReaderLaws.{then_inv}
use Rattle.reader.specs.Value.{Whole, value_of}
use Rattle.reader.specs.ValueLaws.{whole_inv, got_whole, value_got}
use Rattle.reader.proofs.SizeLaws.{Takes, coded_takes, word_within, word_held}
use Rattle.sheet.specs.Module.{ValueType, dyn, Global}
use Rattle.sheet.specs.Decode.{value_type, global_of}
use Rattle.sheet.specs.Encode.{encode_value, encode_global}
use Rattle.sheet.proofs.FuncCodes.{global_codes}
use Rattle.types.specs.Types.{value_faults}
use Rattle.imports.specs.Imports.{init_faults, global_faults, globals_faults}
use Rattle.open_layout.specs.Opened.{module_in}
use Rattle.open_sheet.specs.declared.Opened.{Opened}
use Rattle.open_sheet.specs.Ready.{Opens}
use Rattle.open_sheet.specs.ReadyLaws.{count_consts}
use Rattle.law_judging.specs.Judging.{list_faults}
use Rattle.rule5_globals.specs.Globals.{no_global}

-- ── a global that was read ──

pub global_takes : Takes global_of 2
unfolding encode_global encode_value
global_takes = coded_takes global_of encode_global _ 2 global_codes (λ a. refl) (omega arith)

module _ (b : List ℕ) (n at : ℕ) {a : Global} {q : ℕ} (e : global_of (first_words b n) at ≡ got a q) where
  global_in : at + 1 < n
  unfolding encode_global encode_value
  global_in = word_within global_of encode_global _ b n (global_codes (first_words b n)) at a q e 1 (omega arith)

  global_init : a.init+ ≡ get_or (words b) (at + 1) 0
  unfolding encode_global encode_value
  global_init = sym (word_held global_of encode_global _ b n (global_codes (first_words b n)) at a q e 1 (omega arith) refl)

  -- its value type stands first
  global_type : {C : Type 0} → ((p : ℕ) → value_type (first_words b n) at ≡ got a.type p → C) → C
  unfolding global_of
  global_type f =
      then_inv (value_type (first_words b n) at) _ e λ t p e₁ e₂. then_inv (word (first_words b n) p) _ e₂ λ k p₂ e₃ e₄.
      let z : t ≡ a.type = same e₄ in
      f p (e₁ ∙ ap (λ v. got v p) z)
    where
      same : {t : ValueType} {k p : ℕ} → got (record { type = t; init+ = k }) p ≡ got a q → t ≡ a.type
      same {t} {k} {p} e = let z : record { type = t; init+ = k } ≡ a = cc in ap (λ (g : Global). g.type) z

-- ── one global ──

module _ (b : List ℕ) (n at : ℕ) (h : Whole (global_of (first_words b n) at)) where
  pub global_within : at + 1 < n
  global_within = whole_inv (global_of (first_words b n) at) h λ a q e. global_in b n at e

  pub global_value : Whole (value_type (first_words b n) at)
  global_value = whole_inv (global_of (first_words b n) at) h λ a q e. global_type b n at e λ p g. got_whole g

module _ (b : List ℕ) (o : Opened) where
  abbrev ws : List ℕ
  ws = first_words b o.layout.words

  module _ (at : ℕ) {r : Verdict} (h : Whole (global_of ws at)) (y : r ≡ verdict_of (value_faults (module_in ws) (value_of dyn (value_type ws at)))) where
    -- the value type's verdict, and what is known of the global
    known : {C : Type 0} → ((a : Global) → r ≡ verdict_of (value_faults (module_in ws) a.type) → a.init+ ≡ get_or (words b) (at + 1) 0
        → value_of no_global (global_of ws at) ≡ a → C) → C
    known f = whole_inv (global_of ws at) h λ a q e.
        global_type b o.layout.words at e λ p g.
        f a (y ∙ ap (λ v. verdict_of (value_faults (module_in ws) v)) (value_got dyn g)) (global_init b o.layout.words at e) (value_got no_global e)

    pub global_stop : {k : LoadErrorKind} → r ≡ Err k → Err k ≡ verdict_of (global_faults (module_in ws) (value_of no_global (global_of ws at)))
    unfolding global_faults
    global_stop {k} z = known λ a e i v.
        verdict_stop (value_faults (module_in ws) a.type) (init_faults (module_in ws) a.init+) k z e
        ∙ ap (λ g. verdict_of (global_faults (module_in ws) g)) (sym v)

    module _ {i : ℕ} (z : r ≡ Ok tt) (l : i ≡ get_or (words b) (at + 1) 0) where
      then_init : {x : Verdict} → x ≡ verdict_of (init_faults (module_in ws) i) → x ≡ verdict_of (global_faults (module_in ws) (value_of no_global (global_of ws at)))
      unfolding global_faults
      then_init k = known λ a e j v.
          verdict_then (value_faults (module_in ws) a.type) (init_faults (module_in ws) a.init+) z e
          (k ∙ ap (λ c. verdict_of (init_faults (module_in ws) c)) (l ∙ sym j))
          ∙ ap (λ g. verdict_of (global_faults (module_in ws) g)) (sym v)

      pub global_none : i ≡ 0 → Ok tt ≡ verdict_of (global_faults (module_in ws) (value_of no_global (global_of ws at)))
      unfolding init_faults verdict_of
      global_none k = then_init (sym (ap (λ c. verdict_of (init_faults (module_in ws) c)) k))

      pub global_const : {x : Verdict} → Opens ws o → (i ≡ 0 → ⊥) → x ≡ verdict_of (in_range Constants o.counts.consts (i - 1))
          → x ≡ verdict_of (global_faults (module_in ws) (value_of no_global (global_of ws at)))
      unfolding init_faults
      global_const {x} u k v =
          let w : suc (i - 1) ≡ i = omega arith in
          then_init (v ∙ ap (λ c. verdict_of (in_range Constants c (i - 1))) (count_consts ws o u) ∙ ap (λ c. verdict_of (init_faults (module_in ws) c)) w)

-- ── all globals ──

pub globals_whole : (ws : List ℕ) (o : Opened) → Opens ws o → Whole (list_of global_of ws o.layout.globals)
globals_whole ws o x = got_whole x.located.globals

pub globals_judged : (ws : List ℕ) (o : Opened) {v : Verdict} {r : Judged} → Opens ws o → v ≡ verdict_of (list_faults (global_faults (module_in ws)) (list_of global_of ws o.layout.globals))
    → r ≡ placed in_module v → r ≡ judged_of (globals_faults (module_in ws))
unfolding list_faults globals_faults
globals_judged ws o x e k =
    placed_faults_lem in_module (concat_map (global_faults (module_in ws)) (module_in ws).globals)
    (e ∙ ap (λ l. verdict_of (concat_map (global_faults (module_in ws)) l)) (value_got [] x.located.globals)) k
