-- For the loop that passes a list, a member a turn, and what it says of a reader's list.
use Prim.Native.Nat.{ℕ, zero, suc, ◌+◌, ◌-◌, ◌≤◌, ◌<◌}
use Rattle.std.specs.Prelude.{◌≡◌, refl, List, ◌∷◌, get_or, Option, Some, None, option_and_then}
use Rattle.std.proofs.Math.Path.{sym, ap}
use Rattle.std.proofs.Common.{◌∙◌}
use native.Mathlib.Omega.{arith}
use Rattle.blocks.specs.Blocks.{words}
use Rattle.blocks.specs.Frame.{first_words}
use Rattle.reader.specs.Reader.{Got, broken, got, Reader, and_then, word, many, list_of}
use Rattle.reader.specs.Step.{step_of, many_past, counted_past, list_past}
use Rattle.reader.specs.StepLaws.{word_read, word_none, make}

-- count - i members are ahead, from p on
pub record Passes (past : ℕ → Option ℕ) (ws : List ℕ) (at count i p : ℕ) : Type 0 where
  pub same : list_past past ws at ≡ many_past (count - i) past p

module _ (past : ℕ → Option ℕ) (b : List ℕ) (n at : ℕ) where
  pub passes_start : {w : ℕ} → at < n → w ≡ get_or (words b) at 0 → Passes past (first_words b n) at w 0 (at + 1)
  unfolding list_past
  passes_start {w} h e = let z : w - 0 ≡ w = omega arith in record { same = rw (word_read b n at h e, z) refl }

  pub passes_none : n ≤ at → None ≡ list_past past (first_words b n) at
  unfolding list_past
  passes_none h = rw (word_none b n at h)

module _ (past : ℕ → Option ℕ) (ws : List ℕ) (at count i p : ℕ) (x : Passes past ws at count i p) where
  pub passes_end : count ≤ i → Some p ≡ list_past past ws at
  unfolding many_past
  passes_end h = let z : count - i ≡ 0 = omega arith in sym (x.same ∙ rw z)

  pub passes_next : (q : ℕ) {r : Option ℕ} → i < count → r ≡ Some q → r ≡ past p → Passes past ws at count (i + 1) q
  unfolding many_past
  passes_next q h e k =
      let z : count - i ≡ suc (count - (i + 1)) = omega arith in
      record { same = x.same ∙ rw (z, sym k ∙ e) refl }

  pub passes_stop : {r : Option ℕ} → i < count → r ≡ None → r ≡ past p → None ≡ list_past past ws at
  unfolding many_past
  passes_stop h e k =
      let z : count - i ≡ suc (count - (i + 1)) = omega arith in
      sym (x.same ∙ rw (z, sym k ∙ e) refl)

pub ruleset passing = (passes_start, passes_none, passes_end, passes_next, passes_stop)

-- where the members end that a reader reads
module _ {A : Type 0} (f : Reader A) (ws : List ℕ) where
  many_passed : (n p : ℕ) → many_past n (λ q. step_of (f ws q)) p ≡ step_of (many n f ws p)
  unfolding many many_past step_of
  many_passed zero p = refl
  many_passed (suc n) p = go (f ws p) (many_passed n)
    where
      go : (g : Got A) → ((q : ℕ) → many_past n (λ q. step_of (f ws q)) q ≡ step_of (many n f ws q)) →
          option_and_then (many_past n (λ q. step_of (f ws q))) (step_of g) ≡ step_of (and_then g (λ a q. and_then (many n f ws q) (λ xs r. got (a ∷ xs) r)))
      go broken ih = refl
      go (got a q) ih = ih q ∙ sym (make (many n f ws q) (λ xs. a ∷ xs))

  pub list_passed : (p : ℕ) → list_past (λ q. step_of (f ws q)) ws p ≡ step_of (list_of f ws p)
  unfolding list_past list_of
  list_passed p = go (word ws p)
    where
      go : (g : Got ℕ) → counted_past (λ q. step_of (f ws q)) g ≡ step_of (and_then g (λ n q. many n f ws q))
      go broken = unfold step_of in refl
      go (got n q) = many_passed n q
