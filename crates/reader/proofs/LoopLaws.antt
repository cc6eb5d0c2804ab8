-- For a loop that passes a list, a value a turn, with the count running down.
use Prim.Native.Nat.{ℕ, suc, ◌+◌, ◌-◌, ◌≤◌, ◌<◌}
use Rattle.std.specs.Prelude.{◌≡◌, refl, List, ◌∷◌, get_or}
use Rattle.std.proofs.Math.Path.{sym, ap}
use Rattle.std.proofs.Common.{◌∙◌}
use native.Mathlib.Omega.{arith}
use Rattle.blocks.specs.Blocks.{words}
use Rattle.blocks.specs.Frame.{first_words}
use Rattle.std.specs.Prelude.{Option}
use Rattle.std.specs.Prelude.{Some, None}
use Rattle.reader.specs.Reader.{Reader, many, list_of}
use Rattle.reader.specs.Step.{step_of}
use Rattle.reader.specs.StepLaws.{arrived, stuck, make, word_read, word_none}

-- the values left, from q on, give the answer
pub record Skips {A : Type 0} (f : Reader A) (ws : List ℕ) (at left q : ℕ) : Type 0 where
  pub same : step_of (list_of f ws at) ≡ step_of (many left f ws q)

module _ {A : Type 0} (f : Reader A) (b : List ℕ) (n at : ℕ) where
  pub skips_start : {w : ℕ} → at < n → w ≡ get_or (words b) at 0 → Skips f (first_words b n) at w (at + 1)
  unfolding list_of
  skips_start h e = record { same = rw (word_read b n at h e) }

  pub list_of_end : n ≤ at → None ≡ step_of (list_of f (first_words b n) at)
  unfolding list_of step_of
  list_of_end h = rw (word_none b n at h)

module _ {A : Type 0} (f : Reader A) (ws : List ℕ) (at : ℕ) where
  pub skips_end : (left q : ℕ) → Skips f ws at left q → left ≤ 0 → Some q ≡ step_of (list_of f ws at)
  unfolding many step_of
  skips_end left q s h = let z : left ≡ 0 = omega arith in sym (s.same ∙ rw z)

  pub skips_next : (left q q₂ : ℕ) {r : Option ℕ} → Skips f ws at left q → 0 < left → r ≡ Some q₂ → r ≡ step_of (f ws q) → Skips f ws at (left - 1) q₂
  unfolding many
  skips_next left q q₂ s h e k =
      arrived (f ws q) e k λ a g.
      let z : left ≡ suc (left - 1) = omega arith in
      record { same = s.same ∙ ap (λ n. step_of (many n f ws q)) z ∙ rw g (make (many (left - 1) f ws q₂) (λ xs. a ∷ xs)) }

  pub skips_stop : (left q : ℕ) {r : Option ℕ} → Skips f ws at left q → 0 < left → r ≡ None → r ≡ step_of (f ws q) → None ≡ step_of (list_of f ws at)
  unfolding many step_of
  skips_stop left q s h e k =
      let z : left ≡ suc (left - 1) = omega arith in
      sym (s.same ∙ ap (λ n. step_of (many n f ws q)) z ∙ rw (stuck (f ws q) e k) refl)

pub ruleset skipping = (skips_start, skips_end, skips_next, skips_stop, list_of_end)
