-- Rules over an instruction's numbers.
use Prim.Native.Nat.{ℕ, ◌+◌, ◌-◌, ◌≤◌, ◌<◌}
use mathlib.Core.Path.{◌≡◌, refl, sym, ap, ◌∙◌}
use mathlib.Core.Bool.{Bool, true, false, not, ◌||◌}
use native.Mathlib.Omega.{arith}
use native.Mathlib.Decide.{dec_lt}
use lib.Dec.{eqb, leb}
use borrow.Author.Tests.{le-leb, lt-leb, ne_eqb}
use Rattle.lists.specs.Lists.{contains}
use Rattle.error.specs.declared.What.TheVariants.{Registers}
use Rattle.error.specs.declared.LoadErrorKind.{LoadErrorKind}
use Rattle.error.specs.declared.LoadErrorKind.TheVariants.{ArityMismatch, PromoteNotDynamic, BadModifier, TailCallInTry, OutOfRange}
use Rattle.error.specs.Verdict.{Verdict}
use Rattle.std.specs.Prelude.{Err, Ok}
use Rattle.error.specs.Answer.{unless}
use Rattle.error.specs.Verdict.{verdict_of}
use Rattle.code.specs.Code.{promote, wide_types, arity_faults}
use Rattle.code.proofs.ArityLaws.{arity_few, arity_many, arity_right}
use Rattle.rule7_numbers.specs.Numbers.{window_in, promote_faults, dyn_faults, wide_faults, outside_try}

-- ── a test ──

pub test_holds : (b : Bool) (k : LoadErrorKind) → b ≡ true → Ok tt ≡ verdict_of (unless b k)
unfolding verdict_of
test_holds b k e = sym (ap (λ x. verdict_of (unless x k)) e)

pub test_broken : (b : Bool) (k : LoadErrorKind) → b ≡ false → Err k ≡ verdict_of (unless b k)
unfolding verdict_of
test_broken b k e = sym (ap (λ x. verdict_of (unless x k)) e)

pub ruleset tests = (test_holds, test_broken)

-- ── each rule ──

pub window_holds : (regs first n : ℕ) → first + n ≤ regs → Ok tt ≡ verdict_of (window_in regs first n)
unfolding window_in
window_holds regs first n h = test_holds (leb (first + n) regs) (OutOfRange Registers (first + n - 1)) (le-leb (first + n) regs h)

pub window_broken : (regs first n : ℕ) → regs < first + n → Err (OutOfRange Registers (first + n - 1)) ≡ verdict_of (window_in regs first n)
unfolding window_in
window_broken regs first n h = test_broken (leb (first + n) regs) (OutOfRange Registers (first + n - 1)) (lt-leb (first + n) regs h)

pub ruleset windows = (window_holds, window_broken)

module _ (least most found : ℕ) where
  pub few_broken : found < least → Err (ArityMismatch least found) ≡ verdict_of (arity_faults least most found)
  unfolding verdict_of
  few_broken h = sym (ap verdict_of (arity_few least most found h))

  pub many_broken : least ≤ found → most < found → Err (ArityMismatch most found) ≡ verdict_of (arity_faults least most found)
  unfolding verdict_of
  many_broken g h = sym (ap verdict_of (arity_many least most found g h))

  pub arity_holds : least ≤ found → found ≤ most → Ok tt ≡ verdict_of (arity_faults least most found)
  unfolding verdict_of
  arity_holds g h = sym (ap verdict_of (arity_right least most found g h))

pub ruleset arities = (few_broken, many_broken, arity_holds)

pub dyn_holds : (b : Bool) (d : ℕ) → b ≡ true → Ok tt ≡ verdict_of (dyn_faults b d)
unfolding dyn_faults
dyn_holds b d e = test_holds (not (eqb d promote) || b) PromoteNotDynamic (go (not (eqb d promote)))
  where
    go : (x : Bool) → (x || b) ≡ true
    go true = refl
    go false = e

pub dyn_promote : (b : Bool) (d : ℕ) {r : Verdict} → b ≡ false → r ≡ verdict_of (promote_faults d) → r ≡ verdict_of (dyn_faults b d)
unfolding dyn_faults promote_faults
dyn_promote b d e h = h ∙ ap (λ x. verdict_of (unless x PromoteNotDynamic)) (sym (go (not (eqb d promote))))
  where
    go : (x : Bool) → (x || b) ≡ x
    go true = refl
    go false = e

pub ruleset dyns = (dyn_holds, dyn_promote)

module _ (d : ℕ) where
  wide_is : (k : ℕ) → contains wide_types k ≡ true → d ≡ k → Ok tt ≡ verdict_of (wide_faults d)
  unfolding wide_faults
  wide_is k h e = test_holds (contains wide_types d) BadModifier (ap (contains wide_types) e ∙ h)

  wide_none : (d ≡ 3 → ⊥) → (d ≡ 4 → ⊥) → (d ≡ 7 → ⊥) → (d ≡ 8 → ⊥) → Err BadModifier ≡ verdict_of (wide_faults d)
  unfolding wide_faults
  wide_none h₃ h₄ h₇ h₈ =
      let z : contains wide_types d ≡ false = rw (ne_eqb d 3 h₃, ne_eqb d 4 h₄, ne_eqb d 7 h₇, ne_eqb d 8 h₈) in
      test_broken (contains wide_types d) BadModifier z

  pub wide_low : 3 ≤ d → d < 5 → Ok tt ≡ verdict_of (wide_faults d)
  wide_low g h = go (dec_lt d 4)
    where
      go : Dec (d < 4) → Ok tt ≡ verdict_of (wide_faults d)
      go (yes l) = wide_is 3 refl (omega arith)
      go (no l) = wide_is 4 refl (omega arith)

  pub wide_high : 7 ≤ d → d < 9 → Ok tt ≡ verdict_of (wide_faults d)
  wide_high g h = go (dec_lt d 8)
    where
      go : Dec (d < 8) → Ok tt ≡ verdict_of (wide_faults d)
      go (yes l) = wide_is 7 refl (omega arith)
      go (no l) = wide_is 8 refl (omega arith)

  pub wide_below : d < 3 → Err BadModifier ≡ verdict_of (wide_faults d)
  wide_below h = wide_none (λ e. omega arith) (λ e. omega arith) (λ e. omega arith) (λ e. omega arith)

  pub wide_between : 5 ≤ d → d < 7 → Err BadModifier ≡ verdict_of (wide_faults d)
  wide_between g h = wide_none (λ e. omega arith) (λ e. omega arith) (λ e. omega arith) (λ e. omega arith)

  pub wide_above : 9 ≤ d → Err BadModifier ≡ verdict_of (wide_faults d)
  wide_above h = wide_none (λ e. omega arith) (λ e. omega arith) (λ e. omega arith) (λ e. omega arith)

pub ruleset widths = (wide_low, wide_high, wide_below, wide_between, wide_above)

-- ── a verdict, and then no handler ──

module _ {v : Verdict} (b : Bool) where
  pub try_broken : (k : LoadErrorKind) → v ≡ Err k → Err k ≡ outside_try v b
  unfolding outside_try
  try_broken k e = sym (ap (λ x. outside_try x b) e)

  pub try_tested : {r : Verdict} → v ≡ Ok tt → r ≡ verdict_of (unless (not b) TailCallInTry) → r ≡ outside_try v b
  try_tested e h = h ∙ go b ∙ sym (ap (λ x. outside_try x b) e)
    where
      go : (x : Bool) → verdict_of (unless (not x) TailCallInTry) ≡ outside_try (Ok tt) x
      go true = unfold verdict_of outside_try in refl
      go false = unfold verdict_of outside_try in refl
