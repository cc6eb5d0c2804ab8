-- A loop that goes through a list and stops at the first member that breaks a rule: left are ahead, from q on.
use Rattle.std.specs.Prelude.{ℕ, ◌+◌, ◌-◌, ◌≤◌, ◌<◌, ◌≡◌, refl, get_or}
use Rattle.std.proofs.Math.Path.{sym, ap}
use Rattle.std.proofs.Common.{◌∙◌}
use mathlib.Core.List.{List, [], ◌∷◌, ◌++◌}
use native.Mathlib.Omega.{arith}
use Rattle.lists.specs.Lists.{concat_map}
use Rattle.blocks.specs.Blocks.{words}
use Rattle.blocks.specs.Frame.{first_words}
use Rattle.error.specs.declared.LoadErrorKind.{LoadErrorKind}
use Rattle.error.specs.Verdict.{Verdict}
use Rattle.std.specs.Prelude.{Err, Ok}
use Rattle.error.specs.Verdict.{verdict_of}
use Rattle.error.specs.VerdictLaws.{verdict_then, verdict_stop}
use Rattle.reader.specs.Reader.{Got, got, Reader, many, list_of}
use Rattle.reader.specs.Value.{Whole, value_of}
use Rattle.reader.specs.ValueLaws.{got_whole, value_got, list_whole, list_value, many_first}

-- what is broken in the members of a list that was read
unfoldable pub list_faults : {A : Type 0} → (A → List LoadErrorKind) → Got (List A) → List LoadErrorKind
list_faults faults g = concat_map faults (value_of [] g)

pub record Judges {A : Type 0} (f : Reader A) (faults : A → List LoadErrorKind) (ws : List ℕ) (at left q : ℕ) : Type 0 where
  pub whole : Whole (many left f ws q)
  pub same : verdict_of (list_faults faults (list_of f ws at)) ≡ verdict_of (list_faults faults (many left f ws q))

module _ {A : Type 0} (f : Reader A) (faults : A → List LoadErrorKind) where
  pub judges_start : (b : List ℕ) (n at : ℕ) {c : ℕ} → Whole (list_of f (first_words b n) at) → c ≡ get_or (words b) at 0 → Judges f faults (first_words b n) at c (at + 1)
  unfolding list_faults
  judges_start b n at h e = record { whole = list_whole f b n at h e; same = ap (λ l. verdict_of (concat_map faults l)) (list_value f b n at [] h e) }

  module _ (ws : List ℕ) (at : ℕ) where
    pub judges_end : (left q : ℕ) → Judges f faults ws at left q → left ≤ 0 → Ok tt ≡ verdict_of (list_faults faults (list_of f ws at))
    unfolding list_faults many verdict_of value_of
    judges_end left q x h = let z : left ≡ 0 = omega arith in sym (x.same ∙ ap (λ k. verdict_of (list_faults faults (many k f ws q))) z)

    module _ (left q : ℕ) (x : Judges f faults ws at left q) (h : 0 < left) where
      -- the member at q, and the rest after it
      ahead : {C : Type 0} → ((a : A) (q₂ : ℕ) (ys : List A) (e : ℕ) → f ws q ≡ got a q₂ → many (left - 1) f ws q₂ ≡ got ys e → many left f ws q ≡ got (a ∷ ys) e → C) → C
      ahead g = many_first f ws left q x.whole h g

      pub judges_whole : Whole (f ws q)
      judges_whole = ahead λ a q₂ ys e e₁ e₂ e₃. got_whole e₁

      -- what is broken from q on: first in the member there
      split : (a : A) (q₂ : ℕ) (ys : List A) (e : ℕ) → many left f ws q ≡ got (a ∷ ys) e → verdict_of (list_faults faults (list_of f ws at)) ≡ verdict_of (faults a ++ concat_map faults ys)
      unfolding list_faults
      split a q₂ ys e r = x.same ∙ ap (λ l. verdict_of (concat_map faults l)) (value_got [] r)

      pub judges_stop : (d : A) {r : Verdict} (b : LoadErrorKind) → r ≡ Err b → r ≡ verdict_of (faults (value_of d (f ws q))) → Err b ≡ verdict_of (list_faults faults (list_of f ws at))
      judges_stop d b e k = ahead λ a q₂ ys s e₁ e₂ e₃.
          verdict_stop (faults a) (concat_map faults ys) b e (k ∙ ap (λ v. verdict_of (faults v)) (value_got d e₁)) ∙ sym (split a q₂ ys s e₃)

      pub judges_next : (d : A) (q₂ : ℕ) {r : Verdict} → r ≡ Ok tt → r ≡ verdict_of (faults (value_of d (f ws q))) →
          ((a : A) (p : ℕ) → f ws q ≡ got a p → p ≡ q₂) → Judges f faults ws at (left - 1) q₂
      unfolding list_faults
      judges_next d q₂ e k ends = ahead λ a p ys s e₁ e₂ e₃.
          let z : p ≡ q₂ = ends a p e₁ in
          let m : many (left - 1) f ws q₂ ≡ got ys s = ap (many (left - 1) f ws) (sym z) ∙ e₂ in
          record {
            whole = got_whole m;
            same = split a p ys s e₃ ∙ sym (verdict_then (faults a) (concat_map faults ys) e (k ∙ ap (λ v. verdict_of (faults v)) (value_got d e₁)) refl)
                ∙ ap (λ l. verdict_of (concat_map faults l)) (sym (value_got [] m));
          }
